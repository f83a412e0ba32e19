-- What is kept of a variable, with one access more, and what it tells of the next.
use Rattle.std.proofs.Common.{rules, ◌≡◌, ◌≢◌, ℕ, ◌+◌, ◌-◌, ◌<◌, ◌≤◌, ◌==◌, List, Bool, true, false, not, refl, ap, sym, ◌∙◌, subst, inl, inr, arith, Some, None, eq-eqb}
use Rattle.std.specs.Prelude.{◌⊎◌, ◌↔◌, ◌&&◌, ◌||◌, if◌then◌else◌, max, min, nat_le, slice_get, slice_set, Option, All}
use Rattle.std.proofs.lemmas.List.Elements.{All-get_or}
use Rattle.std.proofs.lemmas.Option.{slice_get_within, get_or_from_slice_get}
use Rattle.gl_raised.specs.Accesses.{IsWithin}
use Rattle.std.proofs.lemmas.Bool.{cases_lt, eqb-true}
use Rattle.gl_core.specs.Cells.{at, cell}
use Rattle.gl_core.proofs.Marking.{or_cases, or_left, or_right, and_both, and_true}
use Rattle.gl_model.specs.declared.limits.TheConstants.{THREADS}
use Rattle.gl_raised.specs.declared.access.Access.{Access}
use Rattle.gl_raised.specs.declared.lasts.Lasts.{Lasts}
use Rattle.gl_raised.specs.Lasts.{mark_of, at_least, later, noted_where, noted, thread_fails}
use Rattle.gl_raised.specs.Judged.{IsPerformedSince, AreLasts, IsRacyBy, IsRacyClaim, IsLeast, AreLeast, least_of, AreOfThreads}
use Rattle.gl_raised.proofs.Cells.{set_cells}
use Rattle.gl_raised.proofs.Walked.{earlier_cases, earlier_old, earlier_new, not_true, not_false}

-- a test that a number is no greater tells that it is not
le_true : (n k : ℕ) → nat_le n k ≡ true → n ≤ k
le_true n k e = search rules

-- a number that is no greater passes the test
true_le : (n k : ℕ) → n ≤ k → nat_le n k ≡ true
true_le n k l = search rules

-- the later of two ticks is at least so much where one is
later_means : (m : Option ℕ) (tick n : ℕ) → (at_least (later m tick) n ≡ true) ↔ ((at_least m n ≡ true) ⊎ (n ≤ tick))
later_means None tick n = (λ e. inr (le_true n tick e), λ w. elim w [ inl e ↦ absurd (cc) | inr l ↦ true_le n tick l ])
later_means (Some before) tick n = (
  λ e. let l : n ≤ max before tick = le_true n (max before tick) e
      in elim (cases_lt before n) [ inl lt ↦ inr (omega arith) | inr ge ↦ inl (true_le n before ge) ],
  λ w. elim w [
    | inl e ↦ (let l = le_true n before e in true_le n (max before tick) (omega arith))
    | inr l ↦ true_le n (max before tick) (omega arith)
  ],
)

-- a mark noted where a test is true is at least n if it was, or the tick is and the test is true
where_means : (ok b : Bool) (m : Option ℕ) (tick n : ℕ)
    → (at_least (if ok && b then later m tick else m) n ≡ true) ↔ ((at_least m n ≡ true) ⊎ ((ok ≡ true) × (b ≡ true) × (n ≤ tick)))
where_means true true m tick n = let l = later_means m tick n
    in (λ e. elim (l.0 e) [ inl x ↦ inl x | inr y ↦ inr (refl, refl, y) ], λ w. l.1 (elim w [ inl x ↦ inl x | inr y ↦ inr y.2 ]))
where_means true false m tick n = (λ e. inl e, λ w. elim w [ inl x ↦ x | inr y ↦ absurd (let z = y.1 in cc) ])
where_means false b m tick n = (λ e. inl e, λ w. elim w [ inl x ↦ x | inr y ↦ absurd (let z = y.0 in cc) ])

-- the kind of an access is this one
abbrev is_kind : Bool → Bool → Bool → Bool → Bool
is_kind false false c w = not c && not w
is_kind false true c w = not c && w
is_kind true false c w = c && not w
is_kind true true c w = c && w

-- an access is of a kind exactly where commit and write agree
kind_means : (commit write c w : Bool) → (is_kind commit write c w ≡ true) ↔ ((c ≡ commit) × (w ≡ write))
kind_means false false c w = (
  λ e. let b = and_both (not c) (not w) e
      in (not_true c b.0, not_true w b.1),
  λ s. and_true (not c) (not w) (not_false c s.0) (not_false w s.1),
)
kind_means false true c w = (λ e. let b = and_both (not c) w e in (not_true c b.0, b.1), λ s. and_true (not c) w (not_false c s.0) s.1)
kind_means true false c w = (λ e. let b = and_both c (not w) e in (b.0, not_true w b.1), λ s. and_true c (not w) s.0 (not_false w s.1))
kind_means true true c w = (λ e. and_both c w e, λ s. and_true c w s.0 s.1)

-- noting by kind is noting where the access is of the kind
noted_kind : (a : Access) (commit write : Bool) (t : ℕ) (m : Option ℕ) → noted a commit write t m
    ≡ noted_where a (is_kind commit write a.commit a.write) t m
noted_kind a false false t m = refl
noted_kind a false true t m = refl
noted_kind a true false t m = refl
noted_kind a true true t m = refl

-- a mark with an access noted is at least n if it was, or the access is of that kind and thread and its tick is
noted_means :
    (a : Access) (commit write : Bool) (t n : ℕ) (m : Option ℕ) →
    (at_least (noted a commit write t m) n ≡ true) ↔ ((at_least m n ≡ true)
    ⊎ ((a.commit ≡ commit) × (a.write ≡ write) × (a.thread ≡ t) × (n ≤ a.tick)))
noted_means a commit write t n m =
    let is = noted_kind a commit write t m in
    let w = where_means (is_kind commit write a.commit a.write) (t == a.thread) m a.tick n in
    let k = kind_means commit write a.commit a.write in (
      λ e. elim (w.0 (rw is at e)) [ inl x ↦ inl x | inr y ↦ inr (let z = k.0 y.0 in (z.0, z.1, sym (eqb-true t a.thread y.1), y.2)) ],
      λ h. subst (λ o. at_least o n ≡ true) (sym is)
          (w.1 (elim h [ inl x ↦ inl x | inr y ↦ inr (k.1 (y.0, y.1), eq-eqb t a.thread (sym y.2), y.3) ])),
    )

module _ (us : List Access) (i : ℕ) (a : Access) (here : slice_get us i ≡ Some a) where
  -- what stands at the index i is this access
  same_access : (v : Access) → slice_get us i ≡ Some v → v ≡ a
  same_access v e = cc

  -- what was performed since a tick among the first i accesses was so among one more
  since_old : (x t n : ℕ) (commit write : Bool) → IsPerformedSince us i x t commit write n → IsPerformedSince us (i + 1) x t commit write n
  since_old x t n commit write p = (p.0, earlier_old us i p.0 p.1, p.2, p.3, p.4, p.5, p.6, p.7)

  since_cases :
      (x t n : ℕ) (commit write : Bool) → IsPerformedSince us (i + 1) x t commit write n →
      IsPerformedSince us i x t commit write n ⊎ ((a.var ≡ x) × (a.thread ≡ t) × (a.performed ≡ true) × (a.commit ≡ commit)
      × (a.write ≡ write) × (n ≤ a.tick))
  since_cases x t n commit write p = elim (earlier_cases us i p.0 p.1) [
    | inl old ↦ inl (p.0, old, p.2, p.3, p.4, p.5, p.6, p.7)
    | inr new ↦ inr (subst (λ (w : Access). (w.var ≡ x) × (w.thread ≡ t) × (w.performed ≡ true) × (w.commit ≡ commit) × (w.write ≡ write)
        × (n ≤ w.tick)) (same_access p.0 new) (p.2, p.3, p.4, p.5, p.6, p.7))
  ]

  pub lasts_more :
      (old new : List Lasts) (was is : Lasts) → a.performed ≡ true → slice_get old a.var ≡ Some was →
      ((x : ℕ) (l : Lasts) → slice_get new x ≡ Some l → ((x ≡ a.var) × (l ≡ is)) ⊎ ((x ≢ a.var) × (slice_get old x ≡ Some l))) →
      ((commit write : Bool) (t : ℕ) → mark_of is commit write t ≡ noted a commit write t (mark_of was commit write t)) → AreLasts us i old
      → AreLasts us (i + 1) new
  lasts_more old new was is done there cells marks know x t n commit write l e = elim (cells x l e) [
    | inl same ↦
        (let before = know a.var t n commit write was there in
        let mark : mark_of l commit write t ≡ noted a commit write t (mark_of was commit write t) =
        ap (λ z. mark_of z commit write t) same.1 ∙ marks commit write t in
        let m = noted_means a commit write t n (mark_of was commit write t) in (
          λ h. elim (m.0 (rw mark at h)) [
            | inl old' ↦ subst (λ y. IsPerformedSince us (i + 1) y t commit write n) (sym same.0)
                (since_old a.var t n commit write (before.0 old'))
            | inr now ↦ (a, earlier_new us i a here, sym same.0, now.2, done, now.0, now.1, now.3)
          ],
          λ p. subst (λ o. at_least o n ≡ true) (sym mark) (m.1 (elim (since_cases x t n commit write p) [
            | inl old' ↦ inl (before.1 (subst (λ y. IsPerformedSince us i y t commit write n) same.0 old'))
            | inr now ↦ inr (now.3, now.4, now.1, now.5)
          ])),
        ))
    | inr other ↦
        (let before = know x t n commit write l other.1 in (
          λ h. since_old x t n commit write (before.0 h),
          λ p. elim (since_cases x t n commit write p) [ inl old' ↦ before.1 old' | inr now ↦ absurd (other.0 (sym now.0)) ],
        ))
  ]

  -- where the access was not performed, the marks are those of the first i + 1 accesses too
  pub lasts_kept : (old : List Lasts) → (a.performed ≡ true → ⊥) → AreLasts us i old → AreLasts us (i + 1) old
  lasts_kept old none know x t n commit write l e =
      let before = know x t n commit write l e in (
        λ h. since_old x t n commit write (before.0 h),
        λ p. elim (since_cases x t n commit write p) [ inl old' ↦ before.1 old' | inr now ↦ absurd (none now.2) ],
      )

  -- the claims that are racy, with one access more
  racy_old : (known : List (List ℕ)) (k x : ℕ) → IsRacyClaim known us i k x → IsRacyClaim known us (i + 1) k x
  racy_old known k x (j, u, l, e, of, on, racy) = (j, u, omega arith, e, of, on, racy)

  -- a claim that is racy on a variable with one access more was so before, or the access is of that claim and that variable and racy
  racy_cases : (known : List (List ℕ)) (k x : ℕ) → IsRacyClaim known us (i + 1) k x → IsRacyClaim known us i k x
      ⊎ ((a.claim ≡ k) × (a.var ≡ x) × IsRacyBy known us i a)
  racy_cases known k x (j, u, l, e, of, on, racy) = elim (cases_lt j i) [
    | inl lt ↦ inl (j, u, lt, e, of, on, racy)
    | inr ge ↦
        (let s : j ≡ i = omega arith in
        let e' : slice_get us i ≡ Some u = subst (λ m. slice_get us m ≡ Some u) s e in
        inr (subst (λ (w : Access). (w.claim ≡ k) × (w.var ≡ x) × IsRacyBy known us i w) (same_access u e')
        (of, on, subst (λ m. IsRacyBy known us m u) s racy)))
  ]

  -- where the access adds no racy variable to a claim, the claim's least racy variable stays the least
  least_grows : (known : List (List ℕ)) (k : ℕ) (o : Option ℕ) → ((x : ℕ) → (a.claim ≡ k) × (a.var ≡ x) × IsRacyBy known us i a → ⊥)
      → IsLeast (IsRacyClaim known us i k) o → IsLeast (IsRacyClaim known us (i + 1) k) o
  least_grows known k None none least = λ x p. elim (racy_cases known k x p) [ inl old ↦ least x old | inr now ↦ none x now ]
  least_grows known k (Some x) none least =
      (racy_old known k x least.0, λ y l p. elim (racy_cases known k y p) [ inl old ↦ least.1 y l old | inr now ↦ none y now ])

  -- where the access is racy, its claim's least racy variable is the lesser of the one before and the access's own
  least_with : (known : List (List ℕ)) (o : Option ℕ) → IsRacyBy known us i a → IsLeast (IsRacyClaim known us i a.claim) o
      → IsLeast (IsRacyClaim known us (i + 1) a.claim) (least_of o a.var)
  least_with known None racy least = (
    (i, a, omega arith, here, refl, refl, racy),
    λ y l p. elim (racy_cases known a.claim y p) [ inl old ↦ least y old | inr now ↦ (let z = now.1 in omega arith) ],
  )
  least_with known (Some x) racy least = elim (cases_lt a.var x) [
    | inl lt ↦
        (let is : min x a.var ≡ a.var = omega arith in
        subst (λ m. IsRacyClaim known us (i + 1) a.claim m × ((y : ℕ) → y < m → IsRacyClaim known us (i + 1) a.claim y → ⊥)) (sym is) (
          (i, a, omega arith, here, refl, refl, racy),
          λ y l p. elim (racy_cases known a.claim y p) [ inl old ↦ least.1 y (omega arith) old | inr now ↦ (let z = now.1 in omega arith) ],
        ))
    | inr ge ↦
        (let is : min x a.var ≡ x = omega arith in
        subst (λ m. IsRacyClaim known us (i + 1) a.claim m × ((y : ℕ) → y < m → IsRacyClaim known us (i + 1) a.claim y → ⊥)) (sym is) (
          racy_old known a.claim x least.0,
          λ y l p. elim (racy_cases known a.claim y p) [ inl old ↦ least.1 y l old | inr now ↦ (let z = now.1 in omega arith) ],
        ))
  ]

  pub least_more :
      (known : List (List ℕ)) (old new : List (Option ℕ)) (was : Option ℕ) → IsRacyBy known us i a → slice_get old a.claim ≡ Some was →
      ((k : ℕ) (o : Option ℕ) → slice_get new k ≡ Some o → ((k ≡ a.claim) × (o ≡ least_of was a.var))
      ⊎ ((k ≢ a.claim) × (slice_get old k ≡ Some o))) →
      AreLeast known us i old → AreLeast known us (i + 1) new
  least_more known old new was racy there cells know k o e = elim (cells k o e) [
    | inl same ↦ subst (λ z. IsLeast (IsRacyClaim known us (i + 1) k) z) (sym same.1)
        (subst (λ m. IsLeast (IsRacyClaim known us (i + 1) m) (least_of was a.var)) (sym same.0)
        (least_with known was racy (know a.claim was there)))
    | inr other ↦ least_grows known k o (λ x now. other.0 (sym now.0)) (know k o other.1)
  ]

  -- where it is not racy by those before it, what was found of each claim goes for the first i + 1 accesses too
  pub least_kept : (known : List (List ℕ)) (old : List (Option ℕ)) → (IsRacyBy known us i a → ⊥) → AreLeast known us i old
      → AreLeast known us (i + 1) old
  least_kept known old none know k o e = least_grows known k o (λ x now. none now.2) (know k o e)

-- what a conflicting access of the thread fails by
fails_cases :
    (p q r s c w : Bool) → (((p || (w && q)) || (not c && r)) || ((not c && w) && s)) ≡ true →
    (p ≡ true) ⊎ (((w ≡ true) × (q ≡ true)) ⊎ (((c ≡ false) × (r ≡ true)) ⊎ ((c ≡ false) × (w ≡ true) × (s ≡ true))))
fails_cases p q r s c w e = elim (or_cases ((p || (w && q)) || (not c && r)) ((not c && w) && s) e) [
  | inl e1 ↦ elim (or_cases (p || (w && q)) (not c && r) e1) [
    | inl e2 ↦ elim (or_cases p (w && q) e2) [ inl e3 ↦ inl e3 | inr e3 ↦ inr (inl (and_both w q e3)) ]
    | inr e2 ↦ (let b = and_both (not c) r e2 in inr (inr (inl (not_true c b.0, b.1))))
  ]
  | inr e1 ↦ (let b = and_both (not c && w) s e1 in let d = and_both (not c) w b.0 in inr (inr (inr (not_true c d.0, d.1, b.1))))
]

-- two accesses may conflict: one of them writes and not both are commits
abbrev MayConflict : Bool → Bool → Bool → Bool → Type 0
MayConflict kc kw c w = ((kw ≡ true) ⊎ (w ≡ true)) × ((kc ≡ false) ⊎ (c ≡ false))

-- a thread that fails has a kind that may conflict, and the mark of that kind is at least what was known
fails_out : (l : Lasts) (known t : ℕ) (c w : Bool) → thread_fails l known t c w ≡ true → (kc : Bool) × (kw : Bool) × MayConflict kc kw c w
    × (at_least (mark_of l kc kw t) known ≡ true)
fails_out l known t c w e = elim (fails_cases (at_least (mark_of l false true t) known) (at_least (mark_of l false false t) known)
    (at_least (mark_of l true true t) known) (at_least (mark_of l true false t) known) c w e) [
      | inl p ↦ (false, true, (inl refl, inl refl), p)
      | inr (inl q) ↦ (false, false, (inr q.0, inl refl), q.1)
      | inr (inr (inl r)) ↦ (true, true, (inl refl, inr r.0), r.1)
      | inr (inr (inr s)) ↦ (true, false, (inr s.1, inr s.0), s.2)
    ]

-- a thread whose mark of a kind that may conflict is at least what was known fails
fails_in : (l : Lasts) (known t : ℕ) (c w kc kw : Bool) → MayConflict kc kw c w → at_least (mark_of l kc kw t) known ≡ true
    → thread_fails l known t c w ≡ true
fails_in l known t c w false true m e = or_left _ _ (or_left _ _ (or_left _ _ e))
fails_in l known t c w false false m e = or_left _ _ (or_left _ _ (or_right _ _ (and_true w _ (elim m.0 [ inl z ↦ cc | inr z ↦ z ]) e)))
fails_in l known t c w true true m e = or_left _ _ (or_right _ _ (and_true (not c) _ (not_false c (elim m.1 [ inl z ↦ cc | inr z ↦ z ])) e))
fails_in l known t c w true false m e = or_right _ _
    (and_true (not c && w) _ (and_true (not c) w (not_false c (elim m.1 [ inl z ↦ cc | inr z ↦ z ])) (elim m.0 [ inl z ↦ cc | inr z ↦ z ]))
    e)

-- an answer that is true exactly where some other thread fails is true exactly where the access races
pub racy_means :
    (known : List (List ℕ)) (us : List Access) (i : ℕ) (a : Access) (lasts : List Lasts) (l : Lasts) (answer : Bool)
    → slice_get lasts a.var ≡ Some l → AreOfThreads us → AreLasts us i lasts →
    (answer ≡ true) ↔ ((t : ℕ) × (t < THREADS) × (t ≢ a.thread) × (thread_fails l (cell known a.claim t) t a.commit a.write ≡ true))
    → (answer ≡ true) ↔ IsRacyBy known us i a
racy_means known us i a lasts l answer there threads know is = (
  λ e.
      let f = is.0 e in
      let o = fails_out l (cell known a.claim f.0) f.0 a.commit a.write f.3 in
      let p = (know a.var f.0 (cell known a.claim f.0) o.0 o.1 l there).0 o.3 in
      let v = p.0 in
      let own : v.thread ≡ f.0 = p.3 in (
        v,
        p.1,
        p.2,
        (λ s. f.2 (sym own ∙ s)),
        p.4,
        (subst (λ b. (b ≡ true) ⊎ (a.write ≡ true)) (sym p.6) o.2.0, subst (λ b. (b ≡ false) ⊎ (a.commit ≡ false)) (sym p.5) o.2.1),
        subst
            (λ t. cell known a.claim t ≤ v.tick) (sym own) p.7,
      ),
  λ r.
      let v = r.0 in
      let e : at_least (mark_of l v.commit v.write v.thread) (cell known a.claim v.thread)
      ≡ true = (know a.var v.thread (cell known a.claim v.thread) v.commit v.write l there).1 (v, r.1, r.2, refl, r.4, refl, refl, r.6) in
      is.1 (
        v.thread,
        threads r.1.0 v r.1.2,
        r.3,
        fails_in l (cell known a.claim v.thread) v.thread a.commit a.write v.commit v.write r.5
            e,
      ),
)

-- the least numbers with one cell changed are the new least there, and the old ones elsewhere
pub least_cells :
    (old : List (Option ℕ)) (k x : ℕ) (was o : Option ℕ) → o ≡ least_of was x →
    (m : ℕ) (p : Option ℕ) → slice_get (slice_set old k o) m ≡ Some p → ((m ≡ k) × (p ≡ least_of was x))
    ⊎ ((m ≢ k) × (slice_get old m ≡ Some p))
least_cells old k x was o is m p e = elim (set_cells old k o m p e) [ inl s ↦ inl (s.0, s.1 ∙ is) | inr w ↦ inr w ]

-- accesses that lie within the limits have threads that there are
pub threads_of : (n : ℕ) (us : List Access) → All (λ a. IsWithin n a) us → AreOfThreads us
threads_of n us all j v e = let w = All-get_or (λ a. IsWithin n a) us j v (slice_get_within us j v e) all
    in subst (λ (a : Access). a.thread < THREADS) (get_or_from_slice_get us j v v e) w.1
