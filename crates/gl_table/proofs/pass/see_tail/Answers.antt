use Rattle.std.proofs.Common.{◌≡◌, subst, arith}
use Rattle.std.specs.Prelude.{Contains}
use Rattle.gl_model.specs.declared.row.Row.{Row as ARow}
use Rattle.gl_draws.specs.RowFacts.{IsWithin}
use Rattle.gl_rule.specs.declared.slot.Slot.TheVariants as slot
use Rattle.gl_rule.specs.View.{Held}
use Rattle.gl_table.specs.PassView.{PassView}
use Rattle.gl_rule.specs.Knowledge.{AreBelow}
use Rattle.gl_table.specs.PassView.{shelf_of}
use Rattle.gl_table.proofs.Passes.{pass_sees, below_later}
use Rattle.gl_table.proofs.pass.see_tail.Goals as goal

-- the Infos of each held row are within the tail
pub returns-clause-within : goal.returns-clause-within
returns-clause-within c = subst (λ (p : PassView). (h : Held) (row : ARow) → Contains p.own.held h → h.taken ≡ slot.Row row
    → IsWithin row c.load_tail-tail.result) c.pass.view_is c.load_tail-tail.ensures.saw.2

pub invariant_of-pass : goal.invariant_of-pass
invariant_of-pass c = record {
  pass = pass_sees _ _ _ _ _ _ c.pass.invariant.pass _ _ c.load_tail-tail.ensures.saw;
  room = c.pass.invariant.room;
}

-- its own events are below the tail, since they were below the one before
pub returns-clause-below : goal.returns-clause-below
returns-clause-below c =
    subst (λ (p : PassView). AreBelow c.load_tail-tail.result (shelf_of p)) c.pass.view_is
    (below_later c.pass.inside.seen c.load_tail-tail.result c.pass.inside.id c.pass.inside.mine.entries
    (let later = c.load_tail-tail.ensures.saw.1 in let sees = c.pass.invariant.pass.sees in omega arith) c.pass.invariant.pass.below)
