-- One entry more, in the walks over the entries.
use Rattle.std.proofs.Common.{◌≡◌, ℕ, zero, suc, ◌+◌, ◌<◌, ◌≤◌, List, [], ◌∷◌, ◌++◌, length, map, take, get_or, Bool, true, false, refl, ap, sym, ◌∙◌, subst, inl, inr, arith, Some, None}
use Rattle.std.specs.Prelude.{◌⊎◌, ◌↔◌, Option, if◌then◌else◌, is_some, max, nat_lt, option_map, slice_get}
use Rattle.std.proofs.lemmas.Bool.{cases_lt, ltb-true}
use Rattle.std.proofs.lemmas.Bool.Decides.{nat_tests}
use Rattle.std.proofs.lemmas.List.{take_more}
use Rattle.std.proofs.lemmas.Option.{slice_get_within, slice_get-get_or, slice_get-map, get_or_from_slice_get}
use Rattle.gl_core.proofs.Marking.{or_both, or_left, or_none, or_right}
use Rattle.gl_core.specs.Cells.{at}
use Rattle.gl_model.specs.declared.tx.Number.{Number}
use Rattle.gl_model.specs.Records.{Lists}
use Rattle.gl_places.specs.Places.{Before, seen}
use Rattle.gl_places.specs.declared.place.Place.{Place as StoredPlace}
use Rattle.gl_causes.specs.Finding.{AreFound, IsAsked, IsFound, IsOfRefused}
use Rattle.gl_causes.specs.Judging.{IsLatest, later, number_on, race_number, races_among, refusal_of}
use Rattle.gl_causes.specs.Learning.{IsLearned, commits_before, handed_on, is_lower, is_lower_than}
use Rattle.gl_causes.specs.Stands.{Stand}
use Rattle.gl_causes.specs.declared.cause.Cause.{Cause}
use Rattle.gl_causes.specs.declared.races.Asked.{Asked}
use Rattle.gl_causes.specs.declared.races.Latest.{Latest}
use Rattle.gl_causes.specs.declared.refusals.Refusal.{Refusal}
use Rattle.gl_raised.proofs.Gathering.{at_cases, kept_at, new_at}
use Rattle.gl_clocks.proofs.Clocking.{below_max}

-- what stands at i among the seen ones is the element at i as it is seen
pub at_seen : {A B : Type 0} (f : A → B) (xs : List A) (i : ℕ) (d : A) → i < length xs → slice_get (map f xs) i ≡ Some (f (get_or xs i d))
at_seen f xs i d l = slice_get-map f xs i ∙ ap (option_map f) (slice_get-get_or xs i d l)

-- the first i + 1 of a list are the first i and then what stands at i
pub taken : {A : Type 0} (xs : List A) (i : ℕ) (x : A) → slice_get xs i ≡ Some x → take (i + 1) xs ≡ take i xs ++ x ∷ []
taken xs i x e = take_more xs i x (slice_get_within xs i x e) ∙ ap (λ z. take i xs ++ z ∷ []) (get_or_from_slice_get xs i x x e)

-- if on none of some variables the first have a lower number, nor on that of one number more, they have none with it
pub lower_more : (ns ms : List Number) (m : Number) → is_lower ns ms ≡ false → is_lower_than m.nth (number_on ns m.var) ≡ false
    → is_lower ns (ms ++ m ∷ []) ≡ false
lower_more ns [] m none never = or_both (is_lower_than m.nth (number_on ns m.var)) false never refl
lower_more ns (x ∷ ms) m none never =
    let w = or_none (is_lower_than x.nth (number_on ns x.var)) (is_lower ns ms) none in
    or_both (is_lower_than x.nth (number_on ns x.var)) (is_lower ns (ms ++ m ∷ [])) w.0 (lower_more ns ms m w.1 never)

-- if the first have a lower number than one of these on its variable, they test as lower
pub lower_one : (ns ms : List Number) (i : ℕ) (m : Number) → slice_get ms i ≡ Some m → is_lower_than m.nth (number_on ns m.var) ≡ true
    → is_lower ns ms ≡ true
lower_one ns [] i m e is = absurd (cc)
lower_one ns (x ∷ ms) zero m e is =
    let same : x ≡ m = cc in
    or_left (is_lower_than x.nth (number_on ns x.var)) (is_lower ns ms)
    (ap (λ (z : Number). is_lower_than z.nth (number_on ns z.var)) same ∙ is)
lower_one ns (x ∷ ms) (suc i) m e is =
    or_right (is_lower_than x.nth (number_on ns x.var)) (is_lower ns ms) (lower_one ns ms i m e is)

-- one of the first i commits hands on more than n of thread u
abbrev pub IsLearnedBelow : List (List ℕ) → List Stand → List Number → ℕ → ℕ → ℕ → Type 0
IsLearnedBelow rows stands numbers i u n =
    (j : ℕ) × ((s : Stand) × (j < i) × (slice_get stands j ≡ Some s) × (commits_before numbers s.entry ≡ true) × (n < handed_on rows s u))

module _ (rows : List (List ℕ)) (stands : List Stand) (numbers : List Number) (i : ℕ) (s : Stand) (here : slice_get stands i ≡ Some s) where
  -- what is learned from one entry more was learned before, or the entry is a commit before the refused attempt that hands it on
  learned_cases : (u n : ℕ) → IsLearnedBelow rows stands numbers (i + 1) u n → IsLearnedBelow rows stands numbers i u n
      ⊎ ((commits_before numbers s.entry ≡ true) × (n < handed_on rows s u))
  learned_cases u n w = elim (cases_lt w.0 i) [
    | inl lt ↦ inl (w.0, (w.1.0, lt, w.1.2, w.1.3, w.1.4))
    | inr ge ↦ inr (let z = w.1.1 in let at_i : w.0 ≡ i = omega arith in
        let there : slice_get stands i ≡ Some w.1.0 = subst (λ k. slice_get stands k ≡ Some w.1.0) at_i w.1.2 in
        let same : w.1.0 ≡ s = cc in
        subst (λ (z : Stand). (commits_before numbers z.entry ≡ true) × (n < handed_on rows z u)) same (w.1.3, w.1.4))
  ]

  -- what is learned from the first i entries is learned from one more
  learned_old : (u n : ℕ) → IsLearnedBelow rows stands numbers i u n → IsLearnedBelow rows stands numbers (i + 1) u n
  learned_old u n w = (w.0, (w.1.0, let z = w.1.1 in omega arith, w.1.2, w.1.3, w.1.4))

  pub learned_kept :
      (old first : List ℕ) → commits_before numbers s.entry ≡ false →
      ((u n : ℕ) → (n < at old u) ↔ ((n < at first u) ⊎ IsLearnedBelow rows stands numbers i u n)) →
      (u n : ℕ) → (n < at old u) ↔ ((n < at first u) ⊎ IsLearnedBelow rows stands numbers (i + 1) u n)
  learned_kept old first none know u n = (
    λ l. elim ((know u n).0 l) [ inl b ↦ inl b | inr w ↦ inr (learned_old u n w) ],
    λ e. (know u n).1 (elim e [
      | inl b ↦ inl b
      | inr w ↦ elim (learned_cases u n w) [ inl o ↦ inr o | inr now ↦ absurd (let z = now.0 in cc) ]
    ]),
  )

  pub learned_more :
      (old new handed first : List ℕ) → commits_before numbers s.entry ≡ true → ((u : ℕ) → at new u ≡ max (at old u) (at handed u)) →
      ((u : ℕ) → at handed u ≡ handed_on rows s u) →
      ((u n : ℕ) → (n < at old u) ↔ ((n < at first u) ⊎ IsLearnedBelow rows stands numbers i u n)) →
      (u n : ℕ) → (n < at new u) ↔ ((n < at first u) ⊎ IsLearnedBelow rows stands numbers (i + 1) u n)
  learned_more old new handed first commits joined is know u n =
      let m = below_max n (at old u) (handed_on rows s u) in
      let same : at new u ≡ max (at old u) (handed_on rows s u) = joined u ∙ ap (max (at old u)) (is u) in (
        λ l. elim (m.0 (subst (λ k. n < k) same l)) [
          | inl b ↦ elim ((know u n).0 b) [ inl f ↦ inl f | inr w ↦ inr (learned_old u n w) ]
          | inr b ↦ inr (i, (s, omega arith, here, commits, b))
        ],
        λ e. subst (λ k. n < k) (sym same) (m.1 (elim e [
          | inl f ↦ inl ((know u n).1 (inl f))
          | inr w ↦ elim (learned_cases u n w) [ inl o ↦ inl ((know u n).1 (inr o)) | inr now ↦ inr now.1 ]
        ])),
      )

-- past the last entry, what is known is what was known first and what was learned from all
pub learned_all :
    (rows : List (List ℕ)) (stands : List Stand) (numbers : List Number) (i : ℕ) → length stands ≤ i → (known first : List ℕ) →
    ((u n : ℕ) → (n < at known u) ↔ ((n < at first u) ⊎ IsLearnedBelow rows stands numbers i u n)) →
    (u n : ℕ) → (n < at known u) ↔ ((n < at first u) ⊎ IsLearned rows stands numbers u n)
learned_all rows stands numbers i long known first know u n = (
  λ l. elim ((know u n).0 l) [ inl b ↦ inl b | inr w ↦ inr (w.0, (w.1.0, w.1.2, w.1.3, w.1.4)) ],
  λ e. (know u n).1 (elim e [
    | inl b ↦ inl b
    | inr w ↦ inr (w.0, (w.1.0, let z = slice_get_within stands w.0 w.1.0 w.1.1 in omega arith, w.1.1, w.1.2, w.1.3))
  ]),
)

-- with one entry more that does not race, the latest race stays
pub latest_none : (a : Asked) (xs : List Stand) (s : Stand) (o : Option Latest) → race_number a s ≡ None → IsLatest a xs o
    → IsLatest a (xs ++ s ∷ []) o
latest_none a xs s None none l = λ i r e. elim (at_cases xs s r i e) [
  | inl old ↦ l i r old
  | inr now ↦ ap (race_number a) now.1 ∙ none
]
latest_none a xs s (Some w) none l = (
  (l.0.0, (l.0.1.0, kept_at xs (s ∷ []) l.0.0 l.0.1.0 l.0.1.1, l.0.1.2, l.0.1.3)),
  λ i r k e is. elim (at_cases xs s r i e) [
    | inl old ↦ l.1 i r k old is
    | inr now ↦ absurd (let z : race_number a r ≡ None = ap (race_number a) now.1 ∙ none in cc)
  ],
)

-- the latest race with one entry more that races is the later of it and that entry
pub latest_some :
    (a : Asked) (xs : List Stand) (s : Stand) (o : Option Latest) (p : StoredPlace) (k : ℕ) → race_number a s ≡ Some k → s.place ≡ seen p
    → IsLatest a xs o → IsLatest a (xs ++ s ∷ []) (later o (record { place = p; nth = k }))
latest_some a xs s None p k some place l = (
  (length xs, (s, new_at xs s, place, some)),
  λ i r j e is. elim (at_cases xs s r i e) [
    | inl old ↦ absurd (let z = l i r old in cc)
    | inr now ↦ (let z : race_number a r ≡ Some k = ap (race_number a) now.1 ∙ some in let same : j ≡ k = cc in omega arith)
  ],
)
latest_some a xs s (Some w) p k some place l = by (nat_lt k w.nth) refl
  where
    by : (b : Bool) → nat_lt k w.nth ≡ b
        → IsLatest a (xs ++ s ∷ []) (if b then Some w else Some (record { place = p; nth = k }))
    by true lt = (
      (l.0.0, (l.0.1.0, kept_at xs (s ∷ []) l.0.0 l.0.1.0 l.0.1.1, l.0.1.2, l.0.1.3)),
      λ i r j e is. elim (at_cases xs s r i e) [
        | inl old ↦ l.1 i r j old is
        | inr now ↦ (let z : race_number a r ≡ Some k = ap (race_number a) now.1 ∙ some in let same : j ≡ k = cc in
            let less : k < w.nth = ltb-true k w.nth lt in omega arith)
      ],
    )
    by false ge = (
      (length xs, (s, new_at xs s, place, some)),
      λ i r j e is. elim (at_cases xs s r i e) [
        | inl old ↦ (let z = l.1 i r j old is in let most : w.nth ≤ k = grind (arith, nat_tests) in omega arith)
        | inr now ↦ (let z : race_number a r ≡ Some k = ap (race_number a) now.1 ∙ some in let same : j ≡ k = cc in omega arith)
      ],
    )

-- with one entry more that does not race, there are as many races as before
pub count_none : (a : Asked) (xs : List Stand) (s : Stand) → race_number a s ≡ None → length (races_among a (xs ++ s ∷ []))
    ≡ length (races_among a xs)
count_none a [] s none = rw none refl
count_none a (x ∷ xs) s none = by (is_some (race_number a x)) (count_none a xs s none)
  where
    by : (b : Bool) → length (races_among a (xs ++ s ∷ [])) ≡ length (races_among a xs)
        → length (if b then x ∷ races_among a (xs ++ s ∷ []) else races_among a (xs ++ s ∷ []))
        ≡ length (if b then x ∷ races_among a xs else races_among a xs)
    by true rec = ap suc rec
    by false rec = rec

-- one entry more that races makes one race more
pub count_some : (a : Asked) (xs : List Stand) (s : Stand) (k : ℕ) → race_number a s ≡ Some k → length (races_among a (xs ++ s ∷ []))
    ≡ length (races_among a xs) + 1
count_some a [] s k some = rw some refl
count_some a (x ∷ xs) s k some = by (is_some (race_number a x)) (count_some a xs s k some)
  where
    by : (b : Bool) → length (races_among a (xs ++ s ∷ [])) ≡ length (races_among a xs) + 1
        → length (if b then x ∷ races_among a (xs ++ s ∷ []) else races_among a (xs ++ s ∷ []))
        ≡ length (if b then x ∷ races_among a xs else races_among a xs) + 1
    by true rec = ap suc rec ∙ (let z : suc (length (races_among a xs) + 1) ≡ suc (length (races_among a xs)) + 1 = omega arith in z)
    by false rec = rec

-- where one races there are some
pub some_counted : (a : Asked) (xs : List Stand) (i : ℕ) (s : Stand) (k : ℕ) → slice_get xs i ≡ Some s → race_number a s ≡ Some k
    → 1 ≤ length (races_among a xs)
some_counted a [] i s k e some = absurd (cc)
some_counted a (x ∷ xs) zero s k e some =
    let same : x ≡ s = cc in
    let is : is_some (race_number a x) ≡ true = ap (λ (z : Stand). is_some (race_number a z)) same ∙ ap is_some some in
    rw is (let z : 1 ≤ suc (length (races_among a xs)) = omega arith in z)
some_counted a (x ∷ xs) (suc i) s k e some = by (is_some (race_number a x)) (some_counted a xs i s k e some)
  where
    by : (b : Bool) → 1 ≤ length (races_among a xs) → 1 ≤ length (if b then x ∷ races_among a xs else races_among a xs)
    by true rec = omega arith
    by false rec = rec

-- the causes, with one entry more
module _ (R : Lists) (rows : List (List ℕ)) (stands : List Stand) (i : ℕ) (s : Stand) (here : slice_get stands i ≡ Some s)
    (causes : List Cause) (so_far : AreFound R rows stands i causes) where
  -- a cause of a refused one of the first i entries is of a refused one of the first i + 1
  of_more : (e : Cause) → IsOfRefused R rows stands i e → IsOfRefused R rows stands (i + 1) e
  of_more e w = record {
    index = w.index;
    stand = w.stand;
    refusal = w.refusal;
    asked = w.asked;
    near = let z = w.near in omega arith;
    there = w.there;
    refused = w.refused;
    place = w.place;
    is_asked = w.is_asked;
    found = w.found;
  }

  -- one of the first i + 1 entries is one of the first i, or this one
  same_stand : (k : ℕ) (r : Stand) → k < i + 1 → slice_get stands k ≡ Some r → (k < i) ⊎ (r ≡ s)
  same_stand k r l e = elim (cases_lt k i) [
    | inl lt ↦ inl lt
    | inr ge ↦ inr (let at_i : k ≡ i = omega arith in
        let there : slice_get stands i ≡ Some r = subst (λ j. slice_get stands j ≡ Some r) at_i e in cc)
  ]

  -- an entry that was not refused adds no cause
  pub found_none : refusal_of s.entry ≡ None → AreFound R rows stands (i + 1) causes
  found_none none = record {
    each = λ j e at'. of_more e (so_far.each j e at');
    all = λ k r f l e is. elim (same_stand k r l e) [
      | inl lt ↦ so_far.all k r f lt e is
      | inr same ↦ absurd (let z : refusal_of r.entry ≡ None = ap (λ (q : Stand). refusal_of q.entry) same ∙ none in cc)
    ];
    rising = so_far.rising;
  }

  -- what is found of a refused one is added behind the causes of those before it
  pub found_some : (r : Refusal) (a : Asked) (e : Cause) → refusal_of s.entry ≡ Some r → seen e.at ≡ s.place → IsAsked rows stands s r a
      → IsFound R a stands e.at e → AreFound R rows stands (i + 1) (causes ++ e ∷ [])
  found_some r a e some place asked found = record {
    each = λ j f at'. elim (at_cases causes e f j at') [
      | inl old ↦ of_more f (so_far.each j f old)
      | inr now ↦ subst (IsOfRefused R rows stands (i + 1)) (sym now.1) (record {
        index = i;
        stand = s;
        refusal = r;
        asked = a;
        near = omega arith;
        there = here;
        refused = some;
        place = place;
        is_asked = asked;
        found = found;
      })
    ];
    all = λ k q f l at' is. elim (same_stand k q l at') [
      | inl lt ↦ (let w = so_far.all k q f lt at' is in (w.0, (w.1.0, kept_at causes (e ∷ []) w.0 w.1.0 w.1.1, w.1.2)))
      | inr same ↦ (length causes, (e, new_at causes e, place ∙ ap (λ (z : Stand). z.place) (sym same)))
    ];
    rising = λ rises j k f g at_j at_k lt. elim (at_cases causes e g k at_k) [
      | inl old ↦ elim (at_cases causes e f j at_j) [
        | inl first ↦ so_far.rising rises j k f g first old lt
        | inr last ↦ absurd (let w = slice_get_within causes k g old in let z = last.0 in omega arith)
      ]
      | inr now ↦ elim (at_cases causes e f j at_j) [
        | inl first ↦
            (let w = so_far.each j f first in
            let before : Before w.stand.place s.place = rises w.index i w.stand s w.there here w.near in
            subst (λ c. Before c (seen g.at)) (sym w.place)
            (subst (λ c. Before w.stand.place c) (sym place ∙ ap (λ (z : Cause). seen z.at) (sym now.1)) before))
        | inr last ↦ absurd (let z = last.0 in let y = now.0 in omega arith)
      ]
    ];
  }
