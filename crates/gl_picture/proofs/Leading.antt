-- Tests of which rows lead to which.
use Rattle.std.proofs.Common.{◌≡◌, ◌≢◌, ◌∙◌, ℕ, zero, suc, ◌+◌, ◌<◌, ◌≤◌, List, [], ◌∷◌, length, refl, sym, ap, subst, arith, inl, inr, Option, Some, Bool, true, false}
use Rattle.std.specs.Prelude.{◌⊎◌, ◌↔◌, ◌||◌, ◌&&◌, ◌==◌, not, IsTrue, slice_get}
use Rattle.std.proofs.lemmas.Bool.{cases_lt}
use Rattle.gl_model.specs.declared.event.Act.TheVariants.{Begin, End}
use Rattle.gl_model.specs.declared.event.Event.{Event}
use Rattle.gl_model.specs.declared.event.Event.TheVariants.{Act as Does}
use Rattle.gl_model.specs.Edges.{SynchronizesWith}
use Rattle.gl_reference.proofs.Truths.{either, both, negated, eq_test}
use Rattle.gl_explain.specs.declared.told.Told.{Told}
use Rattle.gl_picture.specs.Arrows.{HasRow, IsArrow, IsBetween, Leads, by_events, to_first, from_last, event_of, handed_of, stamped}

-- both are there, and the one event synchronizes with the other
abbrev pub Met : ℕ → ℕ → Option Event → Option Event → Type 0
Met t u g k = (e : Event) × (f : Event) × (g ≡ Some e) × (k ≡ Some f) × SynchronizesWith (stamped t e) (stamped u f)

-- a test that two events synchronize tells whether the two rows meet
pub meet_by : (t u : ℕ) (g k : Option Event) (e f : Event) (r : Bool) → g ≡ Some e → k ≡ Some f
    → IsTrue r ↔ SynchronizesWith (stamped t e) (stamped u f) → IsTrue r ↔ Met t u g k
meet_by t u g k e f r given taken test = (
  λ s. (e, f, given, taken, test.0 s),
  λ w. (let one : w.0 ≡ e = cc in let two : w.1 ≡ f = cc in
      test.1 (subst (λ x. SynchronizesWith (stamped t x) (stamped u f)) one (subst (λ y. SynchronizesWith (stamped t w.0)
      (stamped u y)) two w.4))),
)

module _ (rows : List Told) (t from : ℕ) where
  -- where a row between the two places is of thread t, yes is the right answer to whether one is
  pub row_new : (i to : ℕ) (k : Told) → from ≤ i → i < to → slice_get rows i ≡ Some k → k.thread ≡ t → IsTrue true ↔ HasRow rows t from to
  row_new i to k after near there is = (λ _. (i, k, after, near, there, is), λ _. refl)

  -- where row i is of another thread and none before it is of t, none before i + 1 is
  pub row_on : (i : ℕ) (k : Told) → slice_get rows i ≡ Some k → k.thread ≢ t → (HasRow rows t from i → ⊥) → HasRow rows t from (i + 1) → ⊥
  row_on i k there other none (h, q, after, near, at, is) = elim (cases_lt h i) [
    | inl before ↦ none (h, q, after, before, at, is)
    | inr over ↦
        (let here : h ≡ i = omega arith in
        let at' : slice_get rows i ≡ Some q = subst (λ z. slice_get rows z ≡ Some q) here at in
        let same : k ≡ q = cc in
        other (ap (λ (z : Told). z.thread) same ∙ is))
  ]

  -- where none of the rows before n is of t, no is the right answer for any place up to n
  pub row_never : (n to : ℕ) → to ≤ n → (HasRow rows t from n → ⊥) → IsTrue false ↔ HasRow rows t from to
  row_never n to all none = (λ t. absurd (cc), λ w. absurd (none (w.0, w.1, w.2, (let near = w.3 in omega arith), w.4, w.5)))

module _ (rows : List Told) (a b : Told) (i j : ℕ) where
  -- the three ways in which a row leads to another
  abbrev Ways : Type 0
  Ways = (Met a.thread b.thread (handed_of a) (event_of b.item)
      ⊎ (Met a.thread b.thread (handed_of a) (Some (Does (Begin 0))) × (HasRow rows b.thread 0 j → ⊥)))
      ⊎ (Met a.thread b.thread (Some (Does End)) (event_of b.item) × (HasRow rows a.thread (i + 1) (length rows) → ⊥))

  -- if one of the three ways is there, row a leads to row b
  leads_some : Ways → Leads rows a b i j
  leads_some (inl (inl (e, f, given, taken, s))) = by_events e f given taken s
  leads_some (inl (inr ((e, f, given, taken, s), never))) =
      to_first e given never (let is : f ≡ Does (Begin 0) = cc in subst (λ x. SynchronizesWith (stamped a.thread e)
      (stamped b.thread x)) is s)
  leads_some (inr ((e, f, given, taken, s), never)) =
      from_last f taken never (let is : e ≡ Does End = cc in subst (λ x. SynchronizesWith (stamped a.thread x) (stamped b.thread f)) is s)

  -- if row a leads to row b, one of the three ways is there
  some_leads : Leads rows a b i j → Ways
  some_leads (by_events e f given taken s) = inl (inl (e, f, given, taken, s))
  some_leads (to_first e given never s) = inl (inr ((e, Does (Begin 0), given, refl, s), never))
  some_leads (from_last f taken never s) = inr ((Does End, f, refl, taken, s), never)

  pub leads_by :
      (g k : Option Event) (events first last begun on : Bool) → g ≡ handed_of a → k ≡ event_of b.item →
      IsTrue events ↔ Met a.thread b.thread g k → IsTrue first ↔ Met a.thread b.thread g (Some (Does (Begin 0))) →
      IsTrue last ↔ Met a.thread b.thread (Some (Does End)) k →
      IsTrue begun ↔ HasRow rows b.thread 0 j → IsTrue on ↔ HasRow rows a.thread (i + 1) (length rows) →
      IsTrue ((events || (first && not begun)) || (last && not on)) ↔ Leads rows a b i j
  leads_by g k events first last begun on given taken pe pf pl pb po =
      let pe' = subst (λ g. IsTrue events ↔ Met a.thread b.thread g (event_of b.item)) given
      (subst (λ k. IsTrue events ↔ Met a.thread b.thread g k) taken pe) in
      let pf' = subst (λ g. IsTrue first ↔ Met a.thread b.thread g (Some (Does (Begin 0)))) given pf in
      let pl' = subst (λ k. IsTrue last ↔ Met a.thread b.thread (Some (Does End)) k) taken pl in
      let all = either (events || (first && not begun)) (last && not on) _ _
      (either events (first && not begun) _ _ pe' (both first (not begun) _ _ pf' (negated begun _ pb))) (both last (not on) _ _ pl'
      (negated on _ po)) in
      (λ s. leads_some (all.0 s), λ w. all.1 (some_leads w))

-- some row below n stands between
abbrev pub HasBetween : List Told → Told → Told → ℕ → ℕ → ℕ → Type 0
HasBetween rows a b i j n = (k : ℕ) × (c : Told) × (i < k) × (k < n) × (slice_get rows k ≡ Some c) × IsBetween rows a b i j k c

-- where no row below k leads between two, and the row at k does not, none up to k does
pub between_on : (rows : List Told) (a b : Told) (i j k : ℕ) (c : Told) → slice_get rows k ≡ Some c → (IsBetween rows a b i j k c → ⊥)
    → (HasBetween rows a b i j k → ⊥) → HasBetween rows a b i j (k + 1) → ⊥
between_on rows a b i j k c there never none (h, q, after, near, at, is) = elim (cases_lt h k) [
  | inl before ↦ none (h, q, after, before, at, is)
  | inr over ↦
      (let here : h ≡ k = omega arith in
      let at' : slice_get rows k ≡ Some q = subst (λ z. slice_get rows z ≡ Some q) here at in
      let same : q ≡ c = cc in
      never (subst (λ z. IsBetween rows a b i j z c) here (subst (IsBetween rows a b i j h) same is)))
]

-- below the length of a list there is an element
pub some_at : {A : Type 0} (xs : List A) (i : ℕ) → i < length xs → (x : A) × (slice_get xs i ≡ Some x)
some_at [] i near = absurd (omega arith)
some_at (y ∷ xs) zero near = (y, refl)
some_at (y ∷ xs) (suc i) near = some_at xs i (omega arith)

module _ (rows : List Told) (i j : ℕ) where
  pub between_by :
      (k : ℕ) (p q r : Told) (to from : Bool) → slice_get rows i ≡ Some p → slice_get rows j ≡ Some q → slice_get rows k ≡ Some r →
      IsTrue to ↔ Leads rows r q k j → IsTrue from ↔ Leads rows p r i k →
      (a b c : Told) → slice_get rows i ≡ Some a → slice_get rows j ≡ Some b → slice_get rows k ≡ Some c →
      IsTrue (((r.thread == p.thread) && to) || ((r.thread == q.thread) && from)) ↔ IsBetween rows a b i j k c
  between_by k p q r to from ip iq ir pt pf a b c ia ib ic =
      let pa : p ≡ a = cc in
      let qb : q ≡ b = cc in
      let rc : r ≡ c = cc in
      let T : Bool = ((r.thread == p.thread) && to) || ((r.thread == q.thread) && from) in
      let is : IsTrue T ↔ IsBetween rows p q i j k r =
      either ((r.thread == p.thread) && to) ((r.thread == q.thread) && from) _ _ (both (r.thread == p.thread) to _ _
      (eq_test r.thread p.thread) pt)
      (both (r.thread == q.thread) from _ _ (eq_test r.thread q.thread) pf) in
      subst (λ z. IsTrue T ↔ IsBetween rows a b i j k z) rc
      (subst (λ z. IsTrue T ↔ IsBetween rows a z i j k r) qb (subst (λ z. IsTrue T ↔ IsBetween rows z q i j k r) pa is))

  pub between_new :
      (k : ℕ) (test : Bool) → test ≡ true → i < k → k < j → j < length rows →
      ((a b c : Told) → slice_get rows i ≡ Some a → slice_get rows j ≡ Some b → slice_get rows k ≡ Some c
      → IsTrue test ↔ IsBetween rows a b i j k c) →
      (a b : Told) → slice_get rows i ≡ Some a → slice_get rows j ≡ Some b → IsTrue true ↔ HasBetween rows a b i j j
  between_new k test holds after near within tells a b ia ib =
      let s = some_at rows k (omega arith) in
      (λ _. (k, s.0, after, near, s.1, (tells a b s.0 ia ib s.1).0 holds), λ _. refl)

  pub between_more :
      (k : ℕ) (test : Bool) → test ≡ false → k < length rows →
      ((a b c : Told) → slice_get rows i ≡ Some a → slice_get rows j ≡ Some b → slice_get rows k ≡ Some c
      → IsTrue test ↔ IsBetween rows a b i j k c) →
      ((a b : Told) → slice_get rows i ≡ Some a → slice_get rows j ≡ Some b → HasBetween rows a b i j k → ⊥) →
      (a b : Told) → slice_get rows i ≡ Some a → slice_get rows j ≡ Some b → HasBetween rows a b i j (k + 1) → ⊥
  between_more k test fails near tells none a b ia ib =
      let s = some_at rows k near in
      between_on rows a b i j k s.0 s.1 (λ is. (let yes = (tells a b s.0 ia ib s.1).1 is in cc)) (none a b ia ib)

  pub between_never :
      (k : ℕ) → j ≤ k → ((a b : Told) → slice_get rows i ≡ Some a → slice_get rows j ≡ Some b → HasBetween rows a b i j k → ⊥) →
      (a b : Told) → slice_get rows i ≡ Some a → slice_get rows j ≡ Some b → IsTrue false ↔ HasBetween rows a b i j j
  between_never k all none a b ia ib = (
    λ t. absurd (cc),
    λ w. absurd (none a b ia ib (w.0, w.1, w.2, (let near = w.3 in omega arith), w.4, w.5)),
  )

  pub arrow_by :
      (p q : Told) (leads between : Bool) → slice_get rows i ≡ Some p → slice_get rows j ≡ Some q → i < j
      → IsTrue leads ↔ Leads rows p q i j →
      ((a b : Told) → slice_get rows i ≡ Some a → slice_get rows j ≡ Some b → IsTrue between ↔ HasBetween rows a b i j j) →
      IsTrue ((not (p.thread == q.thread) && leads) && not between) ↔ IsArrow rows i j
  arrow_by p q leads between ip iq order pl pb =
      let tests = both (not (p.thread == q.thread) && leads) (not between) _ _
      (both (not (p.thread == q.thread)) leads _ _ (negated (p.thread == q.thread) _ (eq_test p.thread q.thread)) pl) (negated between _
      (pb p q ip iq)) in (
        λ s. (let w = tests.0 s in record {
          first = p;
          second = q;
          there = ip;
          here = iq;
          before = order;
          apart = w.0.0;
          leads = w.0.1;
          nearest = λ k c after near at is. w.1 (k, c, after, near, at, is);
        }),
        λ w.
            (let one : w.first ≡ p = (let at = w.there in cc) in
            let two : w.second ≡ q = (let at = w.here in cc) in
            tests.1 (
              (
                subst (λ z. z.thread ≢ q.thread) one (subst (λ z. w.first.thread ≢ z.thread) two w.apart),
                subst (λ z. Leads rows z q i j) one (subst (λ z. Leads rows w.first z i j) two w.leads),
              ),
              λ b. w.nearest b.0 b.1 b.2 b.3 b.4
                  (subst (λ z. IsBetween rows z w.second i j b.0 b.1) (sym one) (subst (λ z. IsBetween rows p z i j b.0 b.1)
                  (sym two) b.5)),
            )),
      )

-- a test that is false tells that what it tests is not so
pub false_no : (b : Bool) (P : Type 0) → b ≡ false → IsTrue b ↔ P → P → ⊥
false_no b P fails test p = (let yes = test.1 p in cc)
