use Rattle.std.proofs.Common.{sym}
use Rattle.gl_model.specs.declared.tx.Pair.{Pair}
use Rattle.gl_form.proofs.Parted.{gathered, gathered_past}
use Rattle.gl_form.proofs.Parts.{part_in_range}
use Rattle.gl_form.proofs.alone.written.Goals as goal
use Rattle.gl_form.proofs.alone.written.Goals.{in-Some, in_default}

pub insert-requires : goal.insert-requires
insert-requires c = part_in_range (λ (a : Pair). a.var) c.args.writes.now c.loop-i.i c.in-Some.pair c.keeps.ensures (sym c.in-Some.ensures)

pub loop-i-preserved : goal.loop-i-preserved
loop-i-preserved c =
    elim c.match-at.branch [
      | in-Some w ↦
          rw w.vars-is
          (gathered (λ (a : Pair). a.var) c.args.writes.now c.keeps.ensures c.loop-i.i c.loop-i-test.true c.loop-i.vars c.loop-i.invariant
          w.in-Some.pair (sym w.in-Some.ensures)
          w.insert.result w.insert.new.self w.insert.ensures.ok w.insert.ensures.full)
      | in_default w ↦
          rw w.vars-is (gathered_past (λ (a : Pair). a.var) c.args.writes.now c.keeps.ensures c.loop-i.i c.loop-i-test.true c.loop-i.vars
          c.loop-i.invariant (sym w.in_default.ensures))
    ]
