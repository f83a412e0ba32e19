-- The flat order is a strict order of the places that have a block, and of two of them one comes first.
use Rattle.std.proofs.Common.{◌≡◌, ℕ, List, ap, subst, sym, ◌∙◌, inl, inr, arith}
use Rattle.std.specs.Prelude.{◌⊎◌}
use Rattle.std.proofs.lemmas.Bool.{cases_lt}
use Rattle.std.proofs.Math.Nat.{eq-or-lt_of_le}
use Rattle.gl_model.specs.declared.event.Stamp.{Stamp}
use Rattle.gl_model.specs.Flat.{InFlatOrder}
use Rattle.gl_model.specs.Records.{Lists, Place, IsEventList, PositionsRise, IsBlockOf}
use Rattle.gl_laws.proofs.Bridge.{same_place, event_thread}
use Rattle.gl_laws.proofs.Closure.{same_event}
use Rattle.gl_laws.proofs.FlatLaws.{one_block}

-- the place has a block
abbrev pub HasBlock : Lists → Place → Type 0
HasBlock R c = (p : ℕ) × IsBlockOf R c p

module _ (R : Lists) (h : List Stamp) (is_list : IsEventList h R) (rise : PositionsRise R) where
  -- places of one block are places of one thread
  pub one_thread : (c d : Place) (p : ℕ) → IsBlockOf R c p → IsBlockOf R d p → c.thread ≡ d.thread
  one_thread c d p b e =
      let x = is_list.listed (record { thread = c.thread; index = b.index }) p b.event b.made in
      let y = is_list.listed (record { thread = d.thread; index = e.index }) p e.event e.made in
      let same = same_event h p b.event e.event x y in
      sym (event_thread b.made) ∙ ap (λ (s : Stamp). s.thread) same ∙ event_thread e.made

  -- of two places with a block one comes first, or they are one place
  pub compare : (c d : Place) → HasBlock R c → HasBlock R d → InFlatOrder R c d ⊎ ((c ≡ d) ⊎ InFlatOrder R d c)
  compare c d b e = elim (cases_lt b.0 e.0) [
    | inl lt ↦ inl (record { first = b.0; second = e.0; of_first = b.1; of_second = e.1; order = inl lt })
    | inr ge ↦ elim (eq-or-lt_of_le ge) [
      | inr lt ↦ inr (inr (record { first = e.0; second = b.0; of_first = e.1; of_second = b.1; order = inl lt }))
      | inl same ↦
          (let t : c.thread ≡ d.thread = one_thread c d e.0 (subst (λ q. IsBlockOf R c q) (sym same) b.1) e.1 in
          elim (cases_lt c.index d.index) [
            | inl lt ↦ inl (record { first = b.0; second = e.0; of_first = b.1; of_second = e.1; order = inr (sym same, (t, lt)) })
            | inr ge' ↦ elim (eq-or-lt_of_le ge') [
              | inl level ↦ inr (inl (same_place c d t (sym level)))
              | inr lt ↦ inr (inr (record { first = e.0; second = b.0; of_first = e.1; of_second = b.1; order = inr (same, (sym t, lt)) }))
            ]
          ])
    ]
  ]

  -- no place comes before itself
  pub no_loop : (c : Place) → InFlatOrder R c c → ⊥
  no_loop c f = elim f.order [
    | inl lt ↦ (let z = one_block R rise c f.first f.second f.of_first f.of_second in omega arith)
    | inr o ↦
        (let z = o.1.1 in omega arith)
  ]
