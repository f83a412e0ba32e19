use Rattle.std.proofs.Common.{◌≤◌, arith, length, map}
use Rattle.gl_model.specs.Entries.{seen}
use Rattle.gl_model.specs.Flat.{ReadsRight}
use Rattle.gl_model.specs.Form.{At}
use Rattle.gl_flat.proofs.RightLooks.{no_more, one_more}
use Rattle.gl_flat.proofs.Passing.{at_map}
use Rattle.gl_flat.proofs.Tables.{map_length}
use Rattle.gl_flat.proofs.looks.list_fault.Goals as goal

pub loop-i-preserved : goal.loop-i-preserved
loop-i-preserved c = λ R are.
    let es = map seen c.args.entries.now in
    let e = seen c.index-entries-i.result in
    let there : At es c.loop-i.i e = at_map seen c.args.entries.now c.loop-i.i c.index-entries-i.result
    (omega arith) c.index-entries-i.is in
    one_more (ReadsRight R) es c.loop-i.i (c.loop-i.invariant R are) e there (c.if-not-reads_right.ensures R are)

pub returns : goal.returns
returns c = λ R are.
    let es = map seen c.args.entries.now in
    let far : length es ≤ c.loop-i.i = omega (arith, map_length seen c.args.entries.now, c.loop-i-test.false) in
    no_more (ReadsRight R) es c.loop-i.i (c.loop-i.invariant R are) far
