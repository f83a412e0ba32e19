use Rattle.std.proofs.Common.{◌≡◌, ◌∙◌, sym, ap, false, rules}
use Rattle.std.specs.List.{find}
use Rattle.gl_core.specs.Cells.{at}
use Rattle.gl_core.specs.Latests.{part_fails}
use Rattle.gl_core.proofs.NoRace.{no_race}
use Rattle.gl_core.proofs.commits.first_race.Goals as goal

pub returns : goal.returns
returns c =
    let no_read : c.some_fail.result ≡ false = search rules in
    let no_write : c.some_fail-2.result ≡ false = search rules in
    sym (ap (find (part_fails (at c.args.known.now) c.args.writes.now c.args.latests.now)) c.requires
    ∙ no_race (at c.args.known.now) c.args.latests.now c.args.reads.now c.args.writes.now (sym c.some_fail.ensures ∙ no_read)
    (sym c.some_fail-2.ensures ∙ no_write))
