-- The numbers that the entries of a record have, by thread and then by place.
use Rattle.std.proofs.Common.{◌≡◌, ◌≢◌, ℕ, zero, suc, ◌+◌, ◌<◌, ◌≤◌, ◌==◌, Bool, true, false, List, [], ◌∷◌, ◌++◌, length, get_or, map, Option, Some, None, refl, sym, ◌∙◌, ap, inl, inr, arith, eq-eqb}
use Rattle.std.specs.Prelude.{slice_get, ◌⊎◌}
use Rattle.std.specs.Option.{option_map}
use Rattle.std.proofs.lemmas.Option.{slice_get-get_or, slice_get-map}
use Rattle.std.specs.List.{AllByRecursion}
use Rattle.std.proofs.lemmas.Bool.{eqb-true}
use Rattle.gl_model.specs.Entries.{Entry}
use Rattle.gl_model.specs.Lists.{lists_of}
use Rattle.gl_model.specs.Records.{At, EntryAt, Place}
use Rattle.gl_model.specs.Rising.{Rises}
use Rattle.gl_model.proofs.ListsOf.{other_false}
use Rattle.gl_places.proofs.Pigeons.{IsOnce}
use Rattle.gl_places.specs.Places.{Before}
use Rattle.gl_places.specs.declared.uses.Use.{Use as StoredUse}
use Rattle.gl_places.specs.Uses.{Use, numbers_in, use_seen, uses_from, uses_of}

-- the place of a thread with an index
abbrev pub place_at : ℕ → ℕ → Place
place_at t i = record { thread = t; index = i }

-- a number with the place of its entry
abbrev pub use_at : ℕ → ℕ → ℕ → Use
use_at t i p = (place_at t i, p)

-- the use is one of these
abbrev pub IsIn : List Use → Use → Type 0
IsIn us u = (k : ℕ) × (slice_get us k ≡ Some u)

-- a use of the first list is in both together
pub in_front : (xs ys : List Use) (u : Use) → IsIn xs u → IsIn (xs ++ ys) u
in_front [] ys u (k, at) = cc
in_front (x ∷ xs) ys u (zero, at) = (0, at)
in_front (x ∷ xs) ys u (suc k, at) = (let more = in_front xs ys u (k, at) in (suc more.0, more.1))

-- a use of the second list is in both together
pub in_back : (xs ys : List Use) (u : Use) → IsIn ys u → IsIn (xs ++ ys) u
in_back [] ys u is = is
in_back (x ∷ xs) ys u is = (let more = in_back xs ys u is in (suc more.0, more.1))

-- a use of both together is in one of them
pub in_either : (xs ys : List Use) (u : Use) → IsIn (xs ++ ys) u → IsIn xs u ⊎ IsIn ys u
in_either [] ys u is = inr is
in_either (x ∷ xs) ys u (zero, at) = inl (0, at)
in_either (x ∷ xs) ys u (suc k, at) = elim (in_either xs ys u (k, at)) [
  | inl front ↦ inl (suc front.0, front.1)
  | inr back ↦ inr back
]

-- ## The numbers of uses

-- the number of the use at k stands at k
pub number_of : (us : List Use) (k : ℕ) (u : Use) → slice_get us k ≡ Some u → slice_get (numbers_in us) k ≡ Some u.1
number_of us k u at = slice_get-map (λ (v : Use). v.1) us k ∙ ap (option_map (λ (v : Use). v.1)) at

-- the number at k is that of a use at k
pub use_of_number : (us : List Use) (k p : ℕ) → slice_get (numbers_in us) k ≡ Some p → (c : Place) × (slice_get us k ≡ Some (c, p))
use_of_number us k p at = by_use (slice_get us k) refl where
  by_use : (o : Option Use) → slice_get us k ≡ o → (c : Place) × (slice_get us k ≡ Some (c, p))
  by_use None none = (let e : slice_get (numbers_in us) k ≡ None = slice_get-map (λ (v : Use). v.1) us k
      ∙ ap (option_map (λ (v : Use). v.1)) none in cc)
  by_use (Some u) there = (let e = number_of us k u there in let same : u.1 ≡ p = cc
      in (u.0, there ∙ ap Some (ap (λ n. with_number u.0 n) same))) where
        with_number : Place → ℕ → Use
        with_number c n = (c, n)

-- a use of the program among those that are seen
pub seen_at :
    (items : List StoredUse) (us : List Use) (k : ℕ) (d : StoredUse) → map use_seen items ≡ us → k < length items →
    slice_get us k ≡ Some (use_seen (get_or items k d))
seen_at items us k d are less =
    ap (λ (vs : List Use). slice_get vs k) (sym are) ∙ slice_get-map use_seen items k
    ∙ ap (option_map use_seen) (slice_get-get_or items k d less)

-- ## One list

-- the number is one of these
abbrev pub IsAmong : List ℕ → ℕ → Type 0
IsAmong ns p = (k : ℕ) × (slice_get ns k ≡ Some p)

-- the uses of one entry: these numbers at its place
abbrev here : ℕ → ℕ → List ℕ → List Use
here t i ns = map (λ k. use_at t i k) ns

-- each of its numbers is a use of it
in_here : (t i p : ℕ) (ns : List ℕ) → IsAmong ns p → IsIn (here t i ns) (use_at t i p)
in_here t i p [] (k, at) = cc
in_here t i p (n ∷ ns) (zero, at) = (let same : n ≡ p = cc in (0, ap (λ m. Some (use_at t i m)) same))
in_here t i p (n ∷ ns) (suc k, at) = (let more = in_here t i p ns (k, at) in (suc more.0, more.1))

record IsHere (t i : ℕ) (ns : List ℕ) (u : Use) : Type 0 where
  among : IsAmong ns u.1
  is : u.0 ≡ place_at t i

-- each use of it is one of its numbers at its place
here_is : (t i : ℕ) (ns : List ℕ) (u : Use) → IsIn (here t i ns) u → IsHere t i ns u
here_is t i [] u (k, at) = cc
here_is t i (n ∷ ns) u (zero, at) =
    let same : use_at t i n ≡ u = cc in
    record { among = (0, ap (λ (v : Use). Some v.1) same); is = sym (ap (λ (v : Use). v.0) same) }
here_is t i (n ∷ ns) u (suc k, at) =
    let more = here_is t i ns u (k, at) in
    record { among = (suc more.among.0, more.among.1); is = more.is }

record IsUse (f : Entry → List ℕ) (t i : ℕ) (es : List Entry) (u : Use) : Type 0 where
  place : ℕ
  entry : Entry
  there : At es place entry
  among : IsAmong (f entry) u.1
  is : u.0 ≡ place_at t (i + place)

-- a number of an entry of a list is a use of the list, at that entry's place
used : (f : Entry → List ℕ) (t i j p : ℕ) (es : List Entry) (e : Entry) → At es j e → IsAmong (f e) p
    → IsIn (uses_from f t i es) (use_at t (i + j) p)
used f t i j p [] e there among = cc
used f t i zero p (x ∷ es) e there among =
    let same : x ≡ e = cc in
    let of_x : IsAmong (f x) p = rw same among in
    let place : i + 0 ≡ i = omega arith in
    rw place (in_front (here t i (f x)) (uses_from f t (i + 1) es) (use_at t i p) (in_here t i p (f x) of_x))
used f t i (suc j) p (x ∷ es) e there among =
    let place : (i + 1) + j ≡ i + suc j = omega arith in
    let at_place : IsIn (uses_from f t (i + 1) es) (use_at t (i + suc j) p) = rw (sym place) (used f t (i + 1) j p es e there among) in
    in_back (here t i (f x)) (uses_from f t (i + 1) es) (use_at t (i + suc j) p) at_place

-- a use of a list is a number of an entry of it
use_of : (f : Entry → List ℕ) (t i : ℕ) (es : List Entry) (u : Use) → IsIn (uses_from f t i es) u → IsUse f t i es u
use_of f t i [] u (k, at) = cc
use_of f t i (x ∷ es) u is = elim (in_either (here t i (f x)) (uses_from f t (i + 1) es) u is) [
  | inl front ↦
      (let h = here_is t i (f x) u front in
      let place : i ≡ i + 0 = omega arith in
      record { place = 0; entry = x; there = refl; among = h.among; is = h.is ∙ ap (λ n. place_at t n) place })
  | inr back ↦
      (let l = use_of f t (i + 1) es u back in
      let place : (i + 1) + l.place ≡ i + suc l.place = omega arith in
      record { place = suc l.place; entry = l.entry; there = l.there; among = l.among; is = l.is ∙ ap (λ n. place_at t n) place })
]

-- ## A record

-- a number of an entry of a record is a use of the record
pub is_used : (f : Entry → List ℕ) (made : List (ℕ × List Entry)) (t j p : ℕ) (e : Entry) → At (lists_of made t) j e → IsAmong (f e) p
    → IsIn (uses_of f made) (use_at t j p)
is_used f [] t j p e there among = cc
is_used f (l ∷ ls) t j p e there among = by_test (l.0 == t) refl (λ a. is_used f ls t j p e a among) where
  by_test : (b : Bool) → (l.0 == t) ≡ b → (At (lists_of ls t) j e → IsIn (uses_of f ls) (use_at t j p))
      → IsIn (uses_of f (l ∷ ls)) (use_at t j p)
  by_test true here' more =
      let mine : lists_of (l ∷ ls) t ≡ l.1 = rw here' refl in
      let at : At l.1 j e = ap (λ (es : List Entry). slice_get es j) (sym mine) ∙ there in
      let same : l.0 ≡ t = eqb-true l.0 t here' in
      let from_zero : 0 + j ≡ j = omega arith in
      let own : IsIn (uses_from f l.0 0 l.1) (use_at l.0 j p) = rw (sym from_zero) (used f l.0 0 j p l.1 e at among) in
      let moved : IsIn (uses_from f l.0 0 l.1) (use_at t j p) = rw (sym same) own in
      in_front (uses_from f l.0 0 l.1) (uses_of f ls) (use_at t j p) moved
  by_test false other more =
      let others : lists_of (l ∷ ls) t ≡ lists_of ls t = rw other refl in
      let at : At (lists_of ls t) j e = ap (λ (es : List Entry). slice_get es j) (sym others) ∙ there in
      in_back (uses_from f l.0 0 l.1) (uses_of f ls) (use_at t j p) (more at)

pub record IsUseOf (f : Entry → List ℕ) (made : List (ℕ × List Entry)) (u : Use) : Type 0 where
  pub entry : Entry
  pub there : EntryAt (lists_of made) u.0 entry
  pub among : IsAmong (f entry) u.1

-- where all threads are above t, so are those of the uses
above_used : (f : Entry → List ℕ) (t : ℕ) (ls : List (ℕ × List Entry)) → AllByRecursion (λ s. t < s) (map (λ l. l.0) ls) → (u : Use)
    → IsIn (uses_of f ls) u → t < u.0.thread
above_used f t [] above u (k, at) = cc
above_used f t (l ∷ ls) above u is = elim (in_either (uses_from f l.0 0 l.1) (uses_of f ls) u is) [
  | inl front ↦ (let x = use_of f l.0 0 l.1 u front in let thread = ap (λ (c : Place). c.thread) x.is in let first = above.0 in omega arith)
  | inr back ↦ above_used f t ls above.1 u back
]

-- a use of a record is a number of an entry of it
pub use_is : (f : Entry → List ℕ) (made : List (ℕ × List Entry)) → Rises (map (λ l. l.0) made) → (u : Use) → IsIn (uses_of f made) u
    → IsUseOf f made u
use_is f [] rises u (k, at) = cc
use_is f (l ∷ ls) rises u is = elim (in_either (uses_from f l.0 0 l.1) (uses_of f ls) u is) [
  | inl front ↦
      (let x = use_of f l.0 0 l.1 u front in
      let thread : u.0.thread ≡ l.0 = ap (λ (c : Place). c.thread) x.is in
      let index : u.0.index ≡ x.place = (let from : u.0.index ≡ 0 + x.place = ap (λ (c : Place). c.index) x.is in omega arith) in
      let here' : (l.0 == u.0.thread) ≡ true = eq-eqb l.0 u.0.thread (sym thread) in
      let mine : lists_of (l ∷ ls) u.0.thread ≡ l.1 = rw here' refl in
      let at : slice_get l.1 u.0.index ≡ Some x.entry = ap (λ n. slice_get l.1 n) index ∙ x.there in
      record { entry = x.entry; there = ap (λ (es : List Entry). slice_get es u.0.index) mine ∙ at; among = x.among })
  | inr back ↦
      (let x = use_is f ls rises.1 u back in
      let above = above_used f l.0 ls rises.0 u back in
      let different : l.0 ≢ u.0.thread = λ same. let s : l.0 ≡ u.0.thread = same in omega arith in
      let other = other_false l.0 u.0.thread different in
      let others : lists_of (l ∷ ls) u.0.thread ≡ lists_of ls u.0.thread = rw other refl in
      record { entry = x.entry; there = ap (λ (es : List Entry). slice_get es u.0.index) others ∙ x.there; among = x.among })
]

-- ## No draw stands twice

-- no use stands twice
abbrev pub Differ : List Use → Type 0
Differ [] = Unit {0}
Differ (u ∷ us) = (IsIn us u → ⊥) × Differ us

-- two lists of which this holds, with nothing in common, are so together
differ : (xs ys : List Use) → Differ xs → Differ ys → ((u : Use) → IsIn xs u → IsIn ys u → ⊥) → Differ (xs ++ ys)
differ [] ys one other across = other
differ (x ∷ xs) ys one other across = (
  λ is. elim (in_either xs ys x is) [ inl front ↦ one.0 front | inr back ↦ across x (0, refl) back ],
  differ xs ys one.1 other (λ u in_xs in_ys. across u (suc in_xs.0, in_xs.1) in_ys),
)

-- an entry with each number once has no use twice
here_differ : (t i : ℕ) (ns : List ℕ) → IsOnce ns → Differ (here t i ns)
here_differ t i [] once = tt
here_differ t i (n ∷ ns) once = (
  λ is. let h = here_is t i ns (use_at t i n) is in once 0 (suc h.among.0) n (omega arith) refl h.among.1,
  here_differ t i ns (λ j k p less at also. once (suc j) (suc k) p (omega arith) at also),
)

-- so has a list of such entries
list_differ : (f : Entry → List ℕ) (t i : ℕ) (es : List Entry) → ((j : ℕ) (e : Entry) → At es j e → IsOnce (f e))
    → Differ (uses_from f t i es)
list_differ f t i [] once = tt
list_differ f t i (x ∷ es) once = differ (here t i (f x)) (uses_from f t (i + 1) es) (here_differ t i (f x) (once 0 x refl))
    (list_differ f t (i + 1) es (λ j e at. once (suc j) e at)) across where
      across : (u : Use) → IsIn (here t i (f x)) u → IsIn (uses_from f t (i + 1) es) u → ⊥
      across u front back =
          let a = here_is t i (f x) u front in
          let b = use_of f t (i + 1) es u back in
          let one : u.0.index ≡ i = ap (λ (c : Place). c.index) a.is in
          let other : u.0.index ≡ (i + 1) + b.place = ap (λ (c : Place). c.index) b.is in
          omega arith

-- a thread below all of these has no list
none_above : (t : ℕ) (ls : List (ℕ × List Entry)) → AllByRecursion (λ s. t < s) (map (λ l. l.0) ls) → lists_of ls t ≡ []
none_above t [] above = refl
none_above t (l ∷ ls) above =
    let first : t < l.0 = above.0 in
    let different : l.0 ≢ t = λ same. let s : l.0 ≡ t = same in omega arith in
    rw (other_false l.0 t different) (none_above t ls above.1)

-- what stands in a later list stands in the record with the first one too
pub later_list : (l : ℕ × List Entry) (ls : List (ℕ × List Entry)) (t j : ℕ) (e : Entry)
    → AllByRecursion (λ s. l.0 < s) (map (λ m. m.0) ls) → At (lists_of ls t) j e → At (lists_of (l ∷ ls) t) j e
later_list l ls t j e above there = by_test (l.0 == t) refl where
  by_test : (b : Bool) → (l.0 == t) ≡ b → At (lists_of (l ∷ ls) t) j e
  by_test true same =
      let is : l.0 ≡ t = eqb-true l.0 t same in
      let none : lists_of ls l.0 ≡ [] = none_above l.0 ls above in
      let none_t : lists_of ls t ≡ [] = rw (sym is) none in
      let at : slice_get (lists_of ls t) j ≡ None = rw none_t refl in
      cc
  by_test false other = rw other there

-- what stands in the first list stands in the record
pub first_list : (l : ℕ × List Entry) (ls : List (ℕ × List Entry)) (j : ℕ) (e : Entry) → At l.1 j e → At (lists_of (l ∷ ls) l.0) j e
first_list l ls j e there = (let same : (l.0 == l.0) ≡ true = eq-eqb l.0 l.0 refl in rw same there)

-- a record whose entries have each number once has no use twice
pub record_differ : (f : Entry → List ℕ) (made : List (ℕ × List Entry)) → Rises (map (λ l. l.0) made)
    → ((t j : ℕ) (e : Entry) → At (lists_of made t) j e → IsOnce (f e)) → Differ (uses_of f made)
record_differ f [] rises once = tt
record_differ f (l ∷ ls) rises once = differ (uses_from f l.0 0 l.1) (uses_of f ls)
    (list_differ f l.0 0 l.1 (λ j e at. once l.0 j e (first_list l ls j e at)))
    (record_differ f ls rises.1 (λ t j e at. once t j e (later_list l ls t j e rises.0 at))) across where
      across : (u : Use) → IsIn (uses_from f l.0 0 l.1) u → IsIn (uses_of f ls) u → ⊥
      across u front back =
          let a = use_of f l.0 0 l.1 u front in
          let one : u.0.thread ≡ l.0 = ap (λ (c : Place). c.thread) a.is in
          let other = above_used f l.0 ls rises.0 u back in
          omega arith

-- where no use stands twice, one does not stand at two places
pub not_twice : (us : List Use) (j k : ℕ) (u : Use) → Differ us → j < k → slice_get us j ≡ Some u → slice_get us k ≡ Some u → ⊥
not_twice [] j k u differs less at also = cc
not_twice (x ∷ us) zero zero u differs less at also = omega arith
not_twice (x ∷ us) zero (suc k) u differs less at also = (let same : x ≡ u = cc in differs.0 (k, also ∙ ap Some (sym same)))
not_twice (x ∷ us) (suc j) zero u differs less at also = omega arith
not_twice (x ∷ us) (suc j) (suc k) u differs less at also = not_twice us j k u differs.1 (omega arith) at also

-- ## In order

-- a use does not stand before an earlier one's place
abbrev pub InOrder : List Use → Type 0
InOrder [] = Unit {0}
InOrder (u ∷ us) = ((v : Use) → IsIn us v → Before v.0 u.0 → ⊥) × InOrder us

-- two lists in order, with none of the second before one of the first, are in order together
ordered : (xs ys : List Use) → InOrder xs → InOrder ys → ((u v : Use) → IsIn xs u → IsIn ys v → Before v.0 u.0 → ⊥) → InOrder (xs ++ ys)
ordered [] ys one other across = other
ordered (x ∷ xs) ys one other across = (
  λ v is. elim (in_either xs ys v is) [ inl front ↦ one.0 v front | inr back ↦ across x v (0, refl) back ],
  ordered xs ys one.1 other (λ u v in_xs in_ys. across u v (suc in_xs.0, in_xs.1) in_ys),
)

-- of two places of one thread the one with the lower index, or an equal one, is not after the other
not_later : (c d : Place) → c.thread ≡ d.thread → d.index ≤ c.index → Before c d → ⊥
not_later c d same le (inl less) = omega arith
not_later c d same le (inr both) = (let less = both.1 in omega arith)

-- a place of a greater thread is not before one of a lesser
not_above : (c d : Place) → d.thread < c.thread → Before c d → ⊥
not_above c d less (inl other) = omega arith
not_above c d less (inr both) = (let same = both.0 in omega arith)

-- the uses of one entry are in order
here_ordered : (t i : ℕ) (ns : List ℕ) → InOrder (here t i ns)
here_ordered t i [] = tt
here_ordered t i (n ∷ ns) = (later, here_ordered t i ns) where
  later : (v : Use) → IsIn (here t i ns) v → Before v.0 (place_at t i) → ⊥
  later v is =
      let h = here_is t i ns v is in
      let thread : v.0.thread ≡ t = ap (λ (c : Place). c.thread) h.is in
      let index : v.0.index ≡ i = ap (λ (c : Place). c.index) h.is in
      not_later v.0 (place_at t i) thread (omega arith)

-- so are those of a list
list_ordered : (f : Entry → List ℕ) (t i : ℕ) (es : List Entry) → InOrder (uses_from f t i es)
list_ordered f t i [] = tt
list_ordered f t i (x ∷ es) = ordered (here t i (f x)) (uses_from f t (i + 1) es) (here_ordered t i (f x)) (list_ordered f t (i + 1) es)
    across where
      across : (u v : Use) → IsIn (here t i (f x)) u → IsIn (uses_from f t (i + 1) es) v → Before v.0 u.0 → ⊥
      across u v front back =
          let a = here_is t i (f x) u front in
          let b = use_of f t (i + 1) es v back in
          let threads : v.0.thread ≡ u.0.thread = ap (λ (c : Place). c.thread) b.is ∙ sym (ap (λ (c : Place). c.thread) a.is) in
          let one : u.0.index ≡ i = ap (λ (c : Place). c.index) a.is in
          let other : v.0.index ≡ (i + 1) + b.place = ap (λ (c : Place). c.index) b.is in
          not_later v.0 u.0 threads (omega arith)

-- so are those of a record
pub record_ordered : (f : Entry → List ℕ) (made : List (ℕ × List Entry)) → Rises (map (λ l. l.0) made) → InOrder (uses_of f made)
record_ordered f [] rises = tt
record_ordered f (l ∷ ls) rises = ordered (uses_from f l.0 0 l.1) (uses_of f ls) (list_ordered f l.0 0 l.1) (record_ordered f ls rises.1)
    across where
      across : (u v : Use) → IsIn (uses_from f l.0 0 l.1) u → IsIn (uses_of f ls) v → Before v.0 u.0 → ⊥
      across u v front back =
          let a = use_of f l.0 0 l.1 u front in
          let one : u.0.thread ≡ l.0 = ap (λ (c : Place). c.thread) a.is in
          let other = above_used f l.0 ls rises.0 v back in
          not_above v.0 u.0 (omega arith)

-- where uses are in order, a later one is not before an earlier one
pub in_order : (us : List Use) (j k : ℕ) (u v : Use) → InOrder us → j < k → slice_get us j ≡ Some u → slice_get us k ≡ Some v
    → Before v.0 u.0 → ⊥
in_order [] j k u v up less at also before = cc
in_order (x ∷ us) zero zero u v up less at also before = omega arith
in_order (x ∷ us) zero (suc k) u v up less at also before = (let same : x ≡ u = cc in up.0 v (k, also) (rw same before))
in_order (x ∷ us) (suc j) zero u v up less at also before = omega arith
in_order (x ∷ us) (suc j) (suc k) u v up less at also before = in_order us j k u v up.1 (omega arith) at also before
