-- The Trims of a closed table's record.
use Rattle.std.proofs.Common.{◌≡◌, ℕ, zero, ◌+◌, ◌*◌, ◌<◌, ◌≤◌, List, [], length, sym, refl, subst, arith, inl, inr, ◌-◌, ◌/◌}
use Rattle.std.specs.Prelude.{Contains}
use Rattle.std.proofs.lemmas.Bool.{cases_lt}
use Rattle.std.proofs.Math.Nat.{eq-or-lt_of_le, le-div_iff_mul-le, div-lt_iff_lt-mul, add-mul}
use mathlib.Core.Option.{some}
use lib.ListN.{get_elem?}
use Rattle.atomic_table.specs.Table as table
use Rattle.gl_model.specs.declared.event.Stamp.{Stamp}
use Rattle.gl_model.specs.declared.limits.TheConstants.{THREADS}
use Rattle.gl_model.specs.Entries.{Trim}
use Rattle.gl_model.specs.Form.{At}
use Rattle.gl_model.specs.Machine.{Setting}
use Rattle.gl_model.specs.Records.{Lists, Place, EntryAt, IsEventList}
use Rattle.gl_laws.proofs.Bridge.{same_place}
use Rattle.gl_rule.specs.declared.slot.Slot.{Slot}
use Rattle.gl_rule.specs.Closed.{IsClosed, lists_in}
use Rattle.gl_rule.specs.Laws.{HasAll, AreTrims}
use Rattle.gl_rule.specs.Objects.{Key, board, capacity}
use Rattle.gl_rule.specs.Rule.{Rule}
use Rattle.gl_rule.specs.View.{View}
use Rattle.gl_draws.proofs.Closing.{is_list}
use Rattle.gl_rule.proofs.Closing.{closes, events}
use Rattle.gl_rule.proofs.Ending.{all_quiet, none, paid}

module _ (setting : Setting) (low : ℕ) (R : Lists) (c : IsClosed setting low R) where
  -- each Trim of the record is among those that its thread made
  pub trims_of : (p : Place) (l : ℕ) → EntryAt R p (Trim l) → Contains c.trims (p.thread, l)
  trims_of p l at = elim (cases_lt p.thread THREADS) [
    | inl near ↦ (c.lows p.thread near).made p.index l at
    | inr far ↦ absurd (let z : At [] p.index (Trim l) = subst (λ es. At es p.index (Trim l)) (c.beyond p.thread far) at in cc)
  ]

  -- no two Trims of the record have the same low
  once : (p q : Place) (l : ℕ) → EntryAt R p (Trim l) → EntryAt R q (Trim l) → p ≡ q
  once p q l a b =
      let t : p.thread ≡ q.thread = c.lowest.once (p.thread, l) (q.thread, l) (trims_of p l a) (trims_of q l b) refl in
      let b' : At (R p.thread) q.index (Trim l) = subst (λ u. At (R u) q.index (Trim l)) (sym t) b in
      same_place p q t (elim (cases_lt p.index q.index) [
        | inl lt ↦ absurd (let z : l < l = (c.formed p.thread).lows_rise p.index q.index l l a b' lt in omega arith)
        | inr ge ↦ elim (eq-or-lt_of_le ge) [
          | inl same ↦ sym same
          | inr lt ↦ absurd (let z : l < l = (c.formed p.thread).lows_rise q.index p.index l l b' a lt in omega arith)
        ]
      ])

  -- the Trims of a closed table's record are as the ring's segments ask
  pub are_trims : (cells segments n : ℕ) → low * cells ≤ n → n ≤ low * cells + segments * cells → AreTrims cells segments R n
  are_trims cells segments n below room = record {
    once = once;
    greatest = low;
    upto = λ p l at. c.lowest.below (p.thread, l) (trims_of p l at);
    is = elim c.lowest.last [
      | inl z ↦ inl z.1
      | inr z ↦
          (let has : Contains c.trims (z.0, low) = subst (λ ts. Contains ts (z.0, low)) (sym z.2) (zero, omega arith, refl) in
          let k = (c.lows z.0 (c.lowest.named (z.0, low) has)).kept low has in
          inr (record { thread = z.0; index = k.0 }, k.1))
    ];
    below = below;
    room = room;
  }

module _ (key : Key) (st : table.State Slot View) (id : ℕ) (v : View) (rule : Rule key st) (here : get_elem? st.views id ≡ some v)
    (h : HasAll v) where
  -- the table is closed
  pub closed : IsClosed key.setting ((board (capacity key) st.words).hold 0) (lists_in v.shelves)
  closed = closes key rule.0 st id v rule.1 here h.held (none key rule.0 st id v rule.1 here h.held h.all h.done) h.all
      (all_quiet key rule.0 st id v rule.1 here h.held h.all h.done) (paid key rule.0 st id v rule.1 here h.held h.all h.done)

  -- so its Trims are those of the ring
  pub trimmed : (l : List Stamp) × IsEventList l (lists_in v.shelves) × AreTrims key.cells key.segments (lists_in v.shelves) (length l)
  trimmed =
      let b = board (capacity key) st.words in
      let r = rule.1.whole.ring in
      let q = r.holds 0 (omega arith) in
      let low : ℕ = b.hold 0 in
      let from : ℕ = b.hold 0 * key.cells in
      let below : b.hold 0 * key.cells ≤ length rule.0.log =
      (let x : from ≤ b.hold 1 = q.0 in let y : b.hold 1 ≤ length rule.0.log = q.1 in let z : from ≤ length rule.0.log = omega arith
      in z) in (
        rule.0.log,
        is_list (lists_in v.shelves) rule.0.log
            (events key rule.0 st id v rule.1 here h.held (none key rule.0 st id v rule.1 here h.held h.all h.done) h.all),
        are_trims
            key.setting (b.hold 0) (lists_in v.shelves) closed key.cells key.segments (length rule.0.log) below r.room,
      )

-- the same by segments: the greatest Trim is at most the segment of the tail, and with the ring's segments it is above that of the last
-- event
pub by_segments : (cells segments : ℕ) (R : Lists) (n : ℕ) → 0 < cells → (t : AreTrims cells segments R n) → (t.greatest ≤ n / cells)
    × (0 < n → (n - 1) / cells < t.greatest + segments)
by_segments cells segments R n pos t = (
  (le-div_iff_mul-le pos).1 t.below,
  λ one. (div-lt_iff_lt-mul pos).1 (
      let low : ℕ = t.greatest * cells in
      let ring : ℕ = segments * cells in
      let room : n ≤ low + ring = t.room in
      let less : n - 1 < low + ring = omega arith in
      subst (λ z. n - 1 < z) (sym (add-mul t.greatest segments cells)) less),
)
