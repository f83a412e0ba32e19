use Rattle.std.proofs.Common.{ap, ◌∙◌, arith, rules}
use Rattle.atomic_table.specs.Table.{turned}
use Rattle.gl_rule.specs.declared.slot.Slot.TheVariants as slot
use Rattle.gl_table.proofs.Rotations.{turned_step}
use Rattle.gl_table.proofs.hold.turn_by.Goals as goal

pub loop-preserved : goal.loop-preserved
loop-preserved c =
    let i = c.loop.invariant in
    let t = c.turn.ensures in (
      search rules,
      search rules,
      ap (λ m. m.0) t.2 ∙ i.2,
      ap (λ m. m.1) t.2 ∙ ap turned i.3
          ∙ turned_step c.args.seat.now.me.1 c.loop.counter (0, slot.Empty) (omega arith),
    )
