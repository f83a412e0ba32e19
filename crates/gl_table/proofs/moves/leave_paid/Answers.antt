use Rattle.std.proofs.Common.{arith, refl, ap, ◌∙◌}
use Rattle.gl_table.specs.Told.{head_slot}
use Rattle.gl_table.proofs.Calls.{may_pay}
use Rattle.gl_table.proofs.moves.leave_paid.Goals as goal

pub store-requires : goal.store-requires
store-requires g c = let near = c.requires.near in let long = c.requires.table.table.words in let many = c.requires.table.table.slots
    in let o = c.requires.told in let b = c.requires.back
    in (
      c.requires.table.same,
      omega arith,
      may_pay _ _ _ _ _ _ _ o.0 c.requires.ready _ _ _ _ b.0 _ _ o.1 refl (o.2 ∙ ap head_slot b.2)
          (omega arith) b.2 b.3,
    )
