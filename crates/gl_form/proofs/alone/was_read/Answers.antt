use Rattle.std.proofs.Common.{sym, FitsSigned, w64, rules}
use Rattle.std.proofs.lemmas.Int.{to_z-of_z}
use Rattle.gl_form.proofs.Parted.{read_found, read_none}
use Rattle.gl_form.proofs.alone.was_read.Goals as goal

pub returns-in-Some : goal.returns-in-Some
returns-in-Some c =
    let value : FitsSigned w64 c.in-Some.look.value = search rules in
    let read : FitsSigned w64 c.args.read = c.ranges.read in
    let same = simp to_z-of_z at c.is_same.ensures in
    read_found c.args.looks.now c.args.var c.keeps.ensures.1 c.in-Some.look (sym c.in-Some.ensures) c.args.read c.is_same.result same

pub returns-in-None : goal.returns-in-None
returns-in-None c = read_none c.args.looks.now c.args.var (sym c.in-None.ensures) c.args.read
