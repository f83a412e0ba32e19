-- The parts of an end, one after another.
use Rattle.std.proofs.Common.{◌≡◌, ℕ, zero, suc, List, [], ◌∷◌, map, sym, ◌∙◌, subst, arith, Some, None}
use Rattle.gl_model.specs.declared.tx.Tx.{Tx}
use Rattle.gl_rule.specs.declared.slot.Slot.TheVariants as slot
use Rattle.gl_rule.specs.View.{Held, new_held, with_tail, without}
use Rattle.gl_table.specs.PassView.{PassView}
use Rattle.gl_table.specs.TableView.{TableView}
use Rattle.gl_txn.specs.Holding.{AreHeld, AreUnused, held_of, found, undrawn}
use Rattle.gl_txn.specs.Publishing.{IsReady, IsReachStop}
use Rattle.gl_txn.specs.declared.stops.TxWait.{TxWait}
use Rattle.gl_txn.specs.declared.stops.TxWait.TheVariants as wait
use Rattle.gl_txn.specs.declared.taken.TakenRow.{TakenRow}
use Rattle.gl_txn.proofs.Finding.{found_gone, found_still, once_without}
use Rattle.gl_txn.proofs.Published.{held_reached}

-- once the list is put back, just the rows are held
held_list_left : (held : List Held) (t : Held) (rows : List TakenRow) (tails : List ℕ) → AreHeld held (Some t) rows tails undrawn
    → AreHeld (without 0 held) None rows tails undrawn
held_list_left held t rows tails a = record { at = at; once = once_without 0 held a.once; are = a.are }
  where
    at : (k : ℕ) → found k (without 0 held) ≡ held_of None rows tails undrawn k
    at zero = found_gone 0 held
    at (suc y) = found_still 0 (suc y) held (λ e. absurd (omega arith)) ∙ a.at (suc y)

-- where the list was not reached the rows are as they were
pub reach_unused : (z : TableView) (w : TxWait) (p q : PassView) (rows : List TakenRow) (tx : Tx) → IsReady p rows tx → IsReachStop z w p q
    → AreUnused q.own.held rows
reach_unused z (wait.Busy by) p q rows tx r s =
    subst (λ (u : PassView). AreUnused u.own.held rows) (sym s.2)
    (record { tails = p.seen ∷ []; drew = undrawn; holds = r.held; unused = λ y d e. absurd (cc) })
reach_unused z (wait.RingFull low tail) p q rows tx r s = subst (λ (u : PassView). AreUnused u.own.held rows) (sym s.3) (record {
  tails = tail ∷ p.seen ∷ [];
  drew = undrawn;
  holds = held_list_left (map (with_tail tail) (new_held 0 (slot.List s.0) ∷ p.own.held)) (with_tail tail (new_held 0 (slot.List s.0)))
      rows (tail ∷ p.seen ∷ []) (held_reached p.own.held rows (p.seen ∷ []) r.held (slot.List s.0) tail);
  unused = λ y d e. absurd (cc);
})
