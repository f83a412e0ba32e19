use Rattle.std.proofs.Common.{sym}
use Rattle.gl_model.specs.declared.tx.Look.{Look}
use Rattle.gl_form.proofs.Parted.{gathered, gathered_past}
use Rattle.gl_form.proofs.Parts.{part_in_range}
use Rattle.gl_form.proofs.alone.looked.Goals as goal
use Rattle.gl_form.proofs.alone.looked.Goals.{in-Some, in_default}

pub insert-requires : goal.insert-requires
insert-requires c = part_in_range (λ (a : Look). a.var) c.args.looks.now c.loop-i.i c.in-Some.look c.keeps.ensures (sym c.in-Some.ensures)

pub loop-i-preserved : goal.loop-i-preserved
loop-i-preserved c =
    elim c.match-at.branch [
      | in-Some w ↦
          rw w.vars-is
          (gathered (λ (a : Look). a.var) c.args.looks.now c.keeps.ensures c.loop-i.i c.loop-i-test.true c.loop-i.vars c.loop-i.invariant
          w.in-Some.look (sym w.in-Some.ensures)
          w.insert.result w.insert.new.self w.insert.ensures.ok w.insert.ensures.full)
      | in_default w ↦
          rw w.vars-is (gathered_past (λ (a : Look). a.var) c.args.looks.now c.keeps.ensures c.loop-i.i c.loop-i-test.true c.loop-i.vars
          c.loop-i.invariant (sym w.in_default.ensures))
    ]
