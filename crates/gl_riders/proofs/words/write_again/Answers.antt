use Rattle.std.proofs.Common.{FitsSigned, w64}
use Rattle.std.proofs.lemmas.Int.{to_z-of_z}
use Rattle.gl_riders.proofs.Owings.{may_write, owns_write}
use Rattle.gl_riders.proofs.words.write_again.Goals as goal

pub add_repeat-requires-clause-may : goal.add_repeat-requires-clause-may
add_repeat-requires-clause-may c =
    let fits : FitsSigned w64 c.args.value = c.ranges.value in
    simp to_z-of_z (may_write c.args.pass.now c.args.var c.args.nth c.args.value c.requires.held c.requires.runs c.requires.right)

pub returns : goal.returns
returns c =
    let fits : FitsSigned w64 c.args.value = c.ranges.value in
    let done = simp to_z-of_z at c.add_repeat.ensures in
    record {
      done = done;
      owns =
          rw (simp to_z-of_z at c.put.ensures)
          (owns_write c.args.words.now c.args.pass.now.own c.add_repeat.new.pass.own c.args.var c.args.nth c.args.value c.requires.owns
          c.requires.there c.requires.right done);
    }
