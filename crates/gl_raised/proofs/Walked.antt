-- One access more, in the walks over the accesses.
use Rattle.std.proofs.Common.{◌≡◌, ℕ, ◌+◌, ◌-◌, ◌<◌, ◌==◌, List, Bool, true, false, not, refl, ap, sym, ◌∙◌, subst, inl, inr, arith, Some, eq-eqb}
use Rattle.std.specs.Prelude.{◌⊎◌, ◌↔◌, if◌then◌else◌, max, slice_get}
use Rattle.std.proofs.lemmas.Bool.{cases_lt, eqb-true}
use Rattle.gl_core.specs.Cells.{at, cell}
use Rattle.gl_raised.specs.declared.access.Access.{Access}
use Rattle.gl_raised.specs.Earlier.{Earlier, handed_on, IsHandedOn, IsLearned, VariablesKnow, ClaimsKnow}
use Rattle.gl_clocks.proofs.Clocking.{below_max}

-- what comes earlier than the place after is earlier than the place, or stands at it
pub earlier_cases : (us : List Access) (i : ℕ) (v : Access) → Earlier us (i + 1) v → Earlier us i v ⊎ (slice_get us i ≡ Some v)
earlier_cases us i v (j, l, e) = elim (cases_lt j i) [
  | inl lt ↦ inl (j, lt, e)
  | inr ge ↦ inr (let s : j ≡ i = omega arith in subst (λ k. slice_get us k ≡ Some v) s e)
]

-- what comes earlier than a place comes earlier than the place after it
pub earlier_old : (us : List Access) (i : ℕ) (v : Access) → Earlier us i v → Earlier us (i + 1) v
earlier_old us i v (j, l, e) = (j, omega arith, e)

-- what stands at a place comes earlier than the place after it
pub earlier_new : (us : List Access) (i : ℕ) (v : Access) → slice_get us i ≡ Some v → Earlier us (i + 1) v
earlier_new us i v e = (i, omega arith, e)

module _ (rows : List (List ℕ)) (us : List Access) (i : ℕ) (a : Access) (here : slice_get us i ≡ Some a) where
  -- what stands at the index i is this access
  same_access : (v : Access) → slice_get us i ≡ Some v → v ≡ a
  same_access v e = cc

  -- what is handed on, with one access more
  handed_old : (x u n : ℕ) → IsHandedOn rows us i x u n → IsHandedOn rows us (i + 1) x u n
  handed_old x u n (v, e, of, commit, done, l) = (v, earlier_old us i v e, of, commit, done, l)

  -- what is handed on with one access more was handed on before, or the access is of a performed commit of that variable and hands it on
  handed_cases : (x u n : ℕ) → IsHandedOn rows us (i + 1) x u n → IsHandedOn rows us i x u n
      ⊎ ((a.var ≡ x) × (a.commit ≡ true) × (a.performed ≡ true) × (n < handed_on rows a u))
  handed_cases x u n (v, e, of, commit, done, l) = elim (earlier_cases us i v e) [
    | inl old ↦ inl (v, old, of, commit, done, l)
    | inr new ↦ inr (subst (λ (w : Access). (w.var ≡ x) × (w.commit ≡ true) × (w.performed ≡ true) × (n < handed_on rows w u))
        (same_access v new) (of, commit, done, l))
  ]

  pub handed_more :
      (old new : List (List ℕ)) → a.commit ≡ true → a.performed ≡ true →
      ((x u : ℕ) → cell new x u ≡ (if x == a.var then max (cell old x u) (handed_on rows a u) else cell old x u))
      → VariablesKnow rows us i old → VariablesKnow rows us (i + 1) new
  handed_more old new commit done joined know x u n = by (x == a.var) refl
    where
      by : (b : Bool) → (x == a.var) ≡ b → (n < cell new x u) ↔ IsHandedOn rows us (i + 1) x u n
      by true same =
          let is : cell new x u ≡ max (cell old x u) (handed_on rows a u) = joined x u
          ∙ ap (λ b. if b then max (cell old x u) (handed_on rows a u) else cell old x u) same in
          let of : a.var ≡ x = sym (eqb-true x a.var same) in
          let m = below_max n (cell old x u) (handed_on rows a u) in (
            λ l. elim (m.0 (rw is at l)) [
              | inl before ↦ handed_old x u n ((know x u n).0 before)
              | inr now ↦ (a, earlier_new us i a here, of, commit, done, now)
            ],
            λ h. subst (λ k. n < k) (sym is) (m.1 (elim (handed_cases x u n h) [
              | inl before ↦ inl ((know x u n).1 before)
              | inr now ↦ inr now.3
            ])),
          )
      by false other =
          let is : cell new x u ≡ cell old x u = joined x u
          ∙ ap (λ b. if b then max (cell old x u) (handed_on rows a u) else cell old x u) other in (
            λ l. handed_old x u n ((know x u n).0 (rw is at l)),
            λ h. subst (λ k. n < k) (sym is) (elim (handed_cases x u n h) [
              | inl before ↦ (know x u n).1 before
              | inr now ↦ absurd (let z : (x == a.var) ≡ true = eq-eqb x a.var (sym now.0) in cc)
            ]),
          )

  -- where the access is none of a performed commit, the variables know what the first i + 1 hand on as well
  pub handed_kept : (old : List (List ℕ)) → (a.commit ≡ true → a.performed ≡ true → ⊥) → VariablesKnow rows us i old
      → VariablesKnow rows us (i + 1) old
  handed_kept old none know x u n = (
    λ l. handed_old x u n ((know x u n).0 l),
    λ h. elim (handed_cases x u n h) [ inl before ↦ (know x u n).1 before | inr now ↦ absurd (none now.1 now.2) ],
  )

  -- what is learned, with one access more
  learned_old : (k u n : ℕ) → IsLearned rows us i k u n → IsLearned rows us (i + 1) k u n
  learned_old k u n (j, w, l, e, of, commit, refused, h) = (j, w, omega arith, e, of, commit, refused, h)

  -- what a claim learns with one access more it learned before, or the access is a refused one of that claim, and its variable was handed
  -- it
  learned_cases : (k u n : ℕ) → IsLearned rows us (i + 1) k u n → IsLearned rows us i k u n
      ⊎ ((a.claim ≡ k) × (a.commit ≡ true) × (a.performed ≡ false) × IsHandedOn rows us i a.var u n)
  learned_cases k u n (j, w, l, e, of, commit, refused, h) = elim (cases_lt j i) [
    | inl lt ↦ inl (j, w, lt, e, of, commit, refused, h)
    | inr ge ↦
        (let s : j ≡ i = omega arith in
        let e' : slice_get us i ≡ Some w = subst (λ m. slice_get us m ≡ Some w) s e in
        let h' : IsHandedOn rows us i w.var u n = subst (λ m. IsHandedOn rows us m w.var u n) s h in
        inr (subst (λ (v : Access). (v.claim ≡ k) × (v.commit ≡ true) × (v.performed ≡ false) × IsHandedOn rows us i v.var u n)
        (same_access w e') (of, commit, refused, h')))
  ]

  pub learned_more :
      (first learned old new : List (List ℕ)) → a.commit ≡ true → a.performed ≡ false → VariablesKnow rows us i learned →
      ((k u : ℕ) → cell new k u ≡ (if k == a.claim then max (cell old k u) (cell learned a.var u) else cell old k u))
      → ClaimsKnow rows us i first old → ClaimsKnow rows us (i + 1) first new
  learned_more first learned old new commit refused knows joined know k u n = by (k == a.claim) refl
    where
      back : ((n < cell first k u) ⊎ IsLearned rows us (i + 1) k u n) → (n < cell old k u)
          ⊎ ((a.claim ≡ k) × (a.commit ≡ true) × (a.performed ≡ false) × IsHandedOn rows us i a.var u n)
      back (inl f) = inl ((know k u n).1 (inl f))
      back (inr h) = elim (learned_cases k u n h) [ inl before ↦ inl ((know k u n).1 (inr before)) | inr now ↦ inr now ]

      on : n < cell old k u → (n < cell first k u) ⊎ IsLearned rows us (i + 1) k u n
      on l = elim ((know k u n).0 l) [ inl f ↦ inl f | inr h ↦ inr (learned_old k u n h) ]

      by : (b : Bool) → (k == a.claim) ≡ b → (n < cell new k u) ↔ ((n < cell first k u) ⊎ IsLearned rows us (i + 1) k u n)
      by true same =
          let is : cell new k u ≡ max (cell old k u) (cell learned a.var u) = joined k u
          ∙ ap (λ b. if b then max (cell old k u) (cell learned a.var u) else cell old k u) same in
          let of : a.claim ≡ k = sym (eqb-true k a.claim same) in
          let m = below_max n (cell old k u) (cell learned a.var u) in (
            λ l. elim (m.0 (rw is at l)) [
              | inl before ↦ on before
              | inr now ↦ inr (i, a, omega arith, here, of, commit, refused, (knows a.var u n).0 now)
            ],
            λ h. subst (λ z. n < z) (sym is) (m.1 (elim (back h) [ inl before ↦ inl before | inr now ↦ inr ((knows a.var u n).1 now.3) ])),
          )
      by false other =
          let is : cell new k u ≡ cell old k u = joined k u
          ∙ ap (λ b. if b then max (cell old k u) (cell learned a.var u) else cell old k u) other in (
            λ l. on (rw is at l),
            λ h. subst (λ z. n < z) (sym is) (elim (back h) [
              | inl before ↦ before
              | inr now ↦ absurd (let z : (k == a.claim) ≡ true = eq-eqb k a.claim (sym now.0) in cc)
            ]),
          )

  -- where it is none of a refused commit, the claims know what the first i + 1 learn as well
  pub learned_kept : (first old : List (List ℕ)) → (a.commit ≡ true → a.performed ≡ false → ⊥) → ClaimsKnow rows us i first old
      → ClaimsKnow rows us (i + 1) first old
  learned_kept first old none know k u n = (
    λ l. elim ((know k u n).0 l) [ inl f ↦ inl f | inr h ↦ inr (learned_old k u n h) ],
    λ h. elim h [
      | inl f ↦ (know k u n).1 (inl f)
      | inr w ↦ elim (learned_cases k u n w) [ inl before ↦ (know k u n).1 (inr before) | inr now ↦ absurd (none now.1 now.2) ]
    ],
  )

-- what is true when negated is false
pub not_true : (b : Bool) → not b ≡ true → b ≡ false
not_true true e = cc
not_true false e = refl

-- what is false is true when negated
pub not_false : (b : Bool) → b ≡ false → not b ≡ true
not_false true e = cc
not_false false e = refl

-- a table raised by a clock that is this one
pub table_raised :
    (old new : List (List ℕ)) (i : ℕ) (clock : List ℕ) {f : ℕ → ℕ}
    → ((j u : ℕ) → cell new j u ≡ (if j == i then max (cell old j u) (at clock u) else cell old j u)) → ((u : ℕ) → at clock u ≡ f u) →
    (j u : ℕ) → cell new j u ≡ (if j == i then max (cell old j u) (f u) else cell old j u)
table_raised old new i clock {f = f} raised is j u = raised j u ∙ ap (λ z. if j == i then max (cell old j u) z else cell old j u) (is u)
