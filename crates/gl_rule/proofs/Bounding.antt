-- The positions, numbers and low marks of a closed table's record are bounded.
use Rattle.std.proofs.Common.{◌≡◌, ℕ, ◌*◌, ◌<◌, ◌≤◌, length, refl, subst, arith, inl, inr, Some, true, false, Bool}
use Rattle.std.specs.Prelude.{ℤ, ◌^◌}
use Rattle.std.proofs.lemmas.Option.{slice_get_within}
use Rattle.std.proofs.Math.Nat.{le-mul_of_pos_right}
use mathlib.Core.Option.{some}
use lib.ListN.{get_elem?}
use Rattle.atomic_table.specs.Table as table
use Rattle.gl_model.specs.Elements.{IsStampInRange}
use Rattle.gl_model.specs.Entries.{Entry, Sync, Commit, Plain, Abort, Trim, Over}
use Rattle.gl_model.specs.declared.tx.Why.TheVariants.{Changed, Raised}
use Rattle.gl_model.specs.Form.{At, Draws}
use Rattle.gl_model.specs.Machine.{Setting}
use Rattle.gl_model.specs.Records.{Lists, Place, EntryAt, NumberOn, position_of}
use Rattle.gl_draws.proofs.DrawPlaces.{draw_below, event_there}
use Rattle.gl_draws.proofs.Forming.{log_bound}
use Rattle.gl_draws.proofs.Origins.{gives_is}
use Rattle.gl_rule.specs.declared.slot.Slot.{Slot}
use Rattle.gl_rule.specs.Bounded.{IsBounded, most_stamp, most_events, most_draws}
use Rattle.gl_rule.specs.Closed.{IsClosed, lists_in}
use Rattle.gl_rule.specs.Laws.{HasAll}
use Rattle.gl_rule.specs.Objects.{Key, board, capacity}
use Rattle.gl_rule.specs.Rule.{Rule}
use Rattle.gl_rule.specs.View.{View}
use Rattle.gl_rule.proofs.Trimming.{closed, trims_of}

module _ (setting : Setting) (low : ℕ) (R : Lists) (c : IsClosed setting low R) where
  -- a position is one of the events
  position : (p : Place) (e : Entry) (n : ℕ) → EntryAt R p e → position_of e ≡ Some n → n < most_stamp
  position p e n at is =
      let ev = event_there e n is in
      let event = (c.events p.thread).listed p.index n e ev.0 at is ev.1 in
      let near = slice_get_within c.log n (record { thread = p.thread; event = ev.0 }) event in
      let few : length c.log ≤ most_events = c.few_events in omega arith

  -- a number that was drawn is one of its variable's draws
  drawn : (p : Place) (e : Entry) (x k : ℕ) → EntryAt R p e → Draws e x k → k < most_stamp
  drawn p e x k at is =
      let m = (c.tied.at p.thread).made x k p.index e at is in
      let near : k < length (c.draws x) = draw_below (c.draws x) k m.0 m.1 in
      let few : length (c.draws x) ≤ most_draws = c.few_draws x in omega arith

  -- a repeat has the number of the access that gives the right to it
  repeated : (p : Place) (x k : ℕ) (write : Bool) (value : ℤ) → EntryAt R p (Plain x k true write value false) → k < most_stamp
  repeated p x k write value at =
      let right = (c.formed p.thread).cached p.index x k write value at in
      let is = gives_is right.entry x k right.by_write right.gives in
      let there : At (R p.thread) right.index (Plain x k false right.by_write is.0 false) =
      subst (λ e. At (R p.thread) right.index e) is.1 right.there in
      let first : Place = record { thread = p.thread; index = right.index } in
      drawn first (Plain x k false right.by_write is.0 false) x k there (inr (refl, refl, refl))

  -- so is the number of each access
  named : (p : Place) (e : Entry) (x k : ℕ) → EntryAt R p e → NumberOn e x k → k < most_stamp
  named p (Plain var nth false write value raised) x k at is =
      drawn p (Plain var nth false write value raised) x k at (inr (refl, is.0, is.1))
  named p (Plain var nth true write value false) x k at is =
      let near : nth < most_stamp = repeated p var nth write value at in subst (λ z. z < most_stamp) is.1 near
  named p (Plain var nth true write value true) x k at is =
      absurd (let z : true ≡ false = ((c.formed p.thread).well_formed p.index (Plain var nth true write value true) at).0 in cc)
  named p (Commit place tx) x k at is = drawn p (Commit place tx) x k at (inr is)
  named p (Abort tx (Raised var)) x k at is = drawn p (Abort tx (Raised var)) x k at (inr is)
  named p (Abort tx (Changed var read found)) x k at is = absurd is
  named p (Sync place act value) x k at is = absurd is
  named p (Trim l) x k at is = absurd is
  named p (Over ending) x k at is = absurd is

  -- the record is bounded, where the first kept segment is
  pub bounded : low < most_stamp → IsBounded R
  bounded near = record {
    positions = position;
    numbers = λ p e x k at is. elim is [ inl d ↦ drawn p e x k at d | inr n ↦ named p e x k at n ];
    lows = λ p l at. (let m : l ≤ low = c.lowest.below (p.thread, l) (trims_of setting low R c p l at) in omega arith);
  }

module _ (key : Key) (st : table.State Slot View) (id : ℕ) (v : View) (rule : Rule key st) (here : get_elem? st.views id ≡ some v)
    (h : HasAll v) where
  -- so is that of a closed table whose segments have a cell
  pub table_bounded : 0 < key.cells → IsBounded (lists_in v.shelves)
  table_bounded some_cells =
      let from : ℕ = (board (capacity key) st.words).hold 0 in
      let q = rule.1.whole.ring.holds 0 (omega arith) in
      let less : from ≤ from * key.cells = le-mul_of_pos_right from some_cells in
      let near : from * key.cells ≤ length rule.0.log = (let x : from * key.cells ≤ (board (capacity key) st.words).hold 1 = q.0 in
      let y : (board (capacity key) st.words).hold 1 ≤ length rule.0.log = q.1 in omega arith) in
      let few : length rule.0.log ≤ 16 * 2 ^ 50 = log_bound IsStampInRange 16 (2 ^ 50) rule.0.log (λ d k. k.0) rule.1.whole.positions.kept
      rule.1.whole.positions.few in
      let small : from < most_stamp = omega arith in bounded key.setting from (lists_in v.shelves) (closed key st id v rule here h) small
