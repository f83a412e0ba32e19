-- How the walk goes on: past a place of the block, to the block's event, and from the end of a block to the next.
use Rattle.std.proofs.Common.{◌≡◌, ℕ, ◌+◌, ◌<◌, ◌≤◌, List, refl, ap, subst, sym, ◌∙◌, inl, inr, arith}
use Rattle.std.specs.Prelude.{◌⊎◌, ◌↔◌}
use native.Mathlib.Decide.{ℕ_discrete}
use Rattle.gl_model.specs.declared.event.Stamp.{Stamp}
use Rattle.gl_model.specs.Flat.{InFlatOrder}
use Rattle.gl_model.specs.Records.{Lists, Place, IsEventList, PositionsRise, IsBlockOf}
use Rattle.gl_laws.proofs.Bridge.{same_place}
use Rattle.gl_laws.proofs.FlatLaws.{one_block}
use Rattle.gl_flat.specs.Walk.{IsWalked}
use Rattle.gl_flat.proofs.FlatOrder.{one_thread}

module _ (R : Lists) (h : List Stamp) (is_list : IsEventList h R) (rise : PositionsRise R) where
  -- what is walked past a place of block p is what is walked up to it, and that place
  pub walked_more : (c : Place) (p : ℕ) → IsBlockOf R c p → (d : Place) → IsWalked R p (c.index + 1) d ↔ (IsWalked R p c.index d ⊎ (d ≡ c))
  walked_more c p b d = (to, from)
    where
      to : IsWalked R p (c.index + 1) d → IsWalked R p c.index d ⊎ (d ≡ c)
      to (q, e, inl lt) = inl (q, e, inl lt)
      to (q, e, inr w) = elim (ℕ_discrete d.index c.index) [
        | yes level ↦ inr (same_place d c (one_thread R h is_list rise d c p (subst (λ z. IsBlockOf R d z) w.0 e) b) level)
        | no ne ↦ inl (q, e, inr (w.0, let z = w.1 in omega arith))
      ]

      from : IsWalked R p c.index d ⊎ (d ≡ c) → IsWalked R p (c.index + 1) d
      from (inl (q, e, inl lt)) = (q, e, inl lt)
      from (inl (q, e, inr w)) = (q, e, inr (w.0, let z = w.1 in omega arith))
      from (inr same) = (p, subst (λ z. IsBlockOf R z p) (sym same) b, inr (refl, let z = ap (λ (x : Place). x.index) same in omega arith))

  -- what is walked up to a place of block p is before it in flat order
  pub walked_before : (c : Place) (p : ℕ) → IsBlockOf R c p → (d : Place) → IsWalked R p c.index d → InFlatOrder R d c
  walked_before c p b d (q, e, inl lt) = record { first = q; second = p; of_first = e; of_second = b; order = inl lt }
  walked_before c p b d (q, e, inr w) =
      let t = one_thread R h is_list rise d c p (subst (λ z. IsBlockOf R d z) w.0 e) b in
      record { first = q; second = p; of_first = e; of_second = b; order = inr (w.0, (t, w.1)) }

  -- what is before a place of block p in flat order is walked up to it
  pub before_walked : (c : Place) (p : ℕ) → IsBlockOf R c p → (d : Place) → InFlatOrder R d c → IsWalked R p c.index d
  before_walked c p b d f = by f.order
    where
      same : f.second ≡ p
      same = one_block R rise c f.second p f.of_second b

      by : (f.first < f.second) ⊎ ((f.first ≡ f.second) × ((d.thread ≡ c.thread) × (d.index < c.index))) → IsWalked R p c.index d
      by (inl lt) = (f.first, f.of_first, inl (subst (λ z. f.first < z) same lt))
      by (inr w) = (f.first, f.of_first, inr (w.0 ∙ same, w.1.1))

  -- where d is not place i of thread t in block p, and is walked up to i + 1, it is walked up to i
  pub walked_other : (t p i : ℕ) → ((d : Place) → IsBlockOf R d p → d.thread ≡ t) → (d : Place) →
      (IsBlockOf R d p → d ≡ record { thread = t; index = i } → ⊥) →
      IsWalked R p (i + 1) d → IsWalked R p i d
  walked_other t p i own d none (q, e, inl lt) = (q, e, inl lt)
  walked_other t p i own d none (q, e, inr w) = elim (ℕ_discrete d.index i) [
    | yes level ↦
        (let b : IsBlockOf R d p = subst (λ z. IsBlockOf R d z) w.0 e in
        absurd (none b (same_place d (record { thread = t; index = i }) (own d b) level)))
    | no ne ↦ (q, e, inr (w.0, let z = w.1 in omega arith))
  ]

  -- what is walked up to place i of block p is walked up to each later place of p
  pub walked_on : (p i j : ℕ) → i ≤ j → (d : Place) → IsWalked R p i d → IsWalked R p j d
  walked_on p i j le d (q, e, inl lt) = (q, e, inl lt)
  walked_on p i j le d (q, e, inr w) = (q, e, inr (w.0, let z = w.1 in omega arith))

  -- what is walked up to some place of block p is walked up to the start of the next block
  pub walked_out : (p i : ℕ) (d : Place) → IsWalked R p i d → IsWalked R (p + 1) 0 d
  walked_out p i d (q, e, inl lt) = (q, e, inl (omega arith))
  walked_out p i d (q, e, inr w) = (q, e, inl (let z = w.0 in omega arith))

  -- where d stands before i if it is of block p, it is walked up to i in p exactly where it is walked up to the start of the next block
  pub walked_end : (p i : ℕ) (d : Place) → (IsBlockOf R d p → d.index < i) → IsWalked R p i d ↔ IsWalked R (p + 1) 0 d
  walked_end p i d short = (walked_out p i d, from)
    where
      from : IsWalked R (p + 1) 0 d → IsWalked R p i d
      from (q, e, inr w) = absurd (let z = w.1 in omega arith)
      from (q, e, inl lt) = elim (ℕ_discrete q p) [
        | yes same ↦ (q, e, inr (same, short (subst (λ z. IsBlockOf R d z) same e)))
        | no ne ↦ (q, e, inl (omega arith))
      ]

  -- where no place of block p stands before i, what is walked up to the start of p is what is walked up to i
  pub walked_start : (p i : ℕ) → ((d : Place) → IsBlockOf R d p → i ≤ d.index) → (d : Place) → IsWalked R p 0 d ↔ IsWalked R p i d
  walked_start p i high d = (walked_on p 0 i (omega arith) d, from)
    where
      from : IsWalked R p i d → IsWalked R p 0 d
      from (q, e, inl lt) = (q, e, inl lt)
      from (q, e, inr w) = absurd (let y = high d (subst (λ z. IsBlockOf R d z) w.0 e) in let z = w.1 in omega arith)
