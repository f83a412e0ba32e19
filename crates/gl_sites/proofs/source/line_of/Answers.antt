use Rattle.std.proofs.Common.{arith}
use Rattle.std.proofs.lemmas.Bool.Decides.{nat_tests}
use Rattle.gl_sites.proofs.OneLine.{makes}
use Rattle.gl_sites.proofs.source.line_of.Goals as goal

pub returns-then-text : goal.returns-then-text
returns-then-text c = λ P inputs is n h.
    let short = (makes c.args.text.now P inputs is).short in
    let long = c.if-text.true in
    absurd (grind (arith, nat_tests, short, long))

pub returns : goal.returns
returns c = λ P inputs is.
    let made = makes c.args.text.now P inputs is in
    c.find_line.ensures made.adding made.all
