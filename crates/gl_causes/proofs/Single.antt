-- An entry has one cause.
use Rattle.std.proofs.Common.{◌≡◌, ℕ, zero, suc, ◌<◌, List, [], ◌∷◌, length, refl, ap, sym, ◌∙◌, subst, inl, inr, arith, Some, None}
use Rattle.std.specs.Prelude.{◌⊎◌, Option, slice_get}
use Rattle.std.proofs.lemmas.Bool.{cases_lt}
use Rattle.gl_laws.proofs.Bridge.{same_entry}
use Rattle.gl_model.specs.HappensBefore.{HappensBefore}
use Rattle.gl_model.specs.Records.{Lists, Place, EntryAt}
use Rattle.gl_places.specs.Places.{Before, seen}
use Rattle.gl_places.specs.declared.place.Place.{Place as StoredPlace}
use Rattle.gl_raised.specs.Accesses.{raised_on}
use Rattle.gl_causes.specs.Causes.{OneCause, RacesWith}
use Rattle.gl_causes.specs.Leading.{IsLastLeading, IsLed}
use Rattle.gl_causes.proofs.Answering.{in_list, of_list}
use Rattle.gl_raised.proofs.Faulting.{not_before}

-- one of these is at some place
abbrev pub Has : List Place → Place → Type 0
Has xs c = (i : ℕ) × (slice_get xs i ≡ Some c)

-- each place of the list is before those after it
abbrev pub Rise : List Place → Type 0
Rise xs = (i j : ℕ) (b c : Place) → slice_get xs i ≡ Some b → slice_get xs j ≡ Some c → i < j → Before b c

-- one of a list is its first or one of the rest
has_cases : (x : Place) (xs : List Place) (c : Place) → Has (x ∷ xs) c → (x ≡ c) ⊎ Has xs c
has_cases x xs c (zero, e) = inl (let z : x ≡ c = cc in z)
has_cases x xs c (suc i, e) = inr (i, e)

-- the rest of rising places rises
rest_rises : (x : Place) (xs : List Place) → Rise (x ∷ xs) → Rise xs
rest_rises x xs rise i j b c e f lt = rise (suc i) (suc j) b c e f (omega arith)

-- the first of rising places is before each of the others
first_before : (x : Place) (xs : List Place) → Rise (x ∷ xs) → (c : Place) → Has xs c → Before x c
first_before x xs rise c w = rise zero (suc w.0) x c refl w.1 (omega arith)

-- two rising lists of places, each of which has the other's first, begin with the same
first_same : (x y : Place) (xs ys : List Place) → Rise (x ∷ xs) → Rise (y ∷ ys) → Has (y ∷ ys) x → Has (x ∷ xs) y → x ≡ y
first_same x y xs ys rise rise' h k = elim (has_cases y ys x h) [
  | inl same ↦ sym same
  | inr after ↦ elim (has_cases x xs y k) [
    | inl same ↦ same
    | inr behind ↦ absurd (not_before x y (first_before x xs rise y behind) (first_before y ys rise' x after))
  ]
]

-- if two lists begin with the same, and the first rises and has only what the other has, so does its rest with the other's rest
rest_in : (x y : Place) (xs ys : List Place) → x ≡ y → Rise (x ∷ xs) → ((c : Place) → Has (x ∷ xs) c → Has (y ∷ ys) c) → (c : Place)
    → Has xs c
    → Has ys c
rest_in x y xs ys same rise all c w = elim (has_cases y ys c (all c (suc w.0, w.1))) [
  | inr rest ↦ rest
  | inl first ↦
      (let own : Before c c = subst (λ z. Before z c) (same ∙ first) (first_before x xs rise c w) in absurd (not_before c c own own))
]

-- rising places that have the same elements are equally many
same_length : (xs ys : List Place) → Rise xs → Rise ys → ((c : Place) → Has xs c → Has ys c) → ((c : Place) → Has ys c → Has xs c)
    → length xs ≡ length ys
same_length [] [] rise rise' all back = refl
same_length [] (y ∷ ys) rise rise' all back = absurd (let z = back y (zero, refl) in let w = z.1 in cc)
same_length (x ∷ xs) [] rise rise' all back = absurd (let z = all x (zero, refl) in let w = z.1 in cc)
same_length (x ∷ xs) (y ∷ ys) rise rise' all back =
    let same = first_same x y xs ys rise rise' (all x (zero, refl)) (back y (zero, refl)) in
    ap suc (same_length xs ys (rest_rises x xs rise) (rest_rises y ys rise') (rest_in x y xs ys same rise all)
    (rest_in y x ys xs (sym same) rise' back))

-- stored places that look the same are the same
same_stored : (p q : StoredPlace) → seen p ≡ seen q → p ≡ q
same_stored p q e =
    let thread : p.thread ≡ q.thread = ap (λ (c : Place). c.thread) e in
    let index : p.index ≡ q.index = ap (λ (c : Place). c.index) e in
    λ i. record { thread = thread i; index = index i }

-- the last that leads there is one
one_led : (R : Lists) (d : Place) (u : ℕ) (o p : Option StoredPlace) → IsLed R d u o → IsLed R d u p → o ≡ p
one_led R d u None None a b = refl
one_led R d u None (Some k) a b = absurd (a k.index (omega arith) (subst (λ t. HappensBefore R (record { thread = t; index = k.index }) d)
    b.thread b.leads))
one_led R d u (Some k) None a b = absurd (b k.index (omega arith) (subst (λ t. HappensBefore R (record { thread = t; index = k.index }) d)
    a.thread a.leads))
one_led R d u (Some k) (Some l) a b = ap Some (λ i. record { thread = thread i; index = index i })
  where
    thread : k.thread ≡ l.thread
    thread = a.thread ∙ sym b.thread

    not_behind : (m n : StoredPlace) → IsLastLeading R d u m → IsLastLeading R d u n → m.index < n.index → ⊥
    not_behind m n x y lt = x.last n.index (omega arith) (subst (λ t. HappensBefore R (record { thread = t; index = n.index }) d)
        y.thread y.leads)

    index : k.index ≡ l.index
    index = elim (cases_lt k.index l.index) [
      | inl lt ↦ absurd (not_behind k l a b lt)
      | inr ge ↦ elim (cases_lt l.index k.index) [ inl lt ↦ absurd (not_behind l k b a lt) | inr le ↦ omega arith ]
    ]

-- two causes of one entry are the same
pub one_cause_law : OneCause
one_cause_law R numbered e f a b at = (λ i. record { at = at i; var = var i; other = other i; others = others i; leading = leading i })
  where
    here : EntryAt R (seen e.at) b.entry
    here = subst (λ p. EntryAt R (seen p) b.entry) (sym at) b.here

    entry : a.entry ≡ b.entry
    entry = same_entry R (seen e.at) a.entry b.entry a.here here

    var : e.var ≡ f.var
    var = let z : Some e.var ≡ Some f.var = sym a.refused ∙ ap raised_on entry ∙ b.refused in cc

    to : (c : Place) (k : ℕ) → RacesWith R (seen e.at) e.var c k → RacesWith R (seen f.at) f.var c k
    to c k w = subst (λ p. RacesWith R (seen p) f.var c k) at (subst (λ x. RacesWith R (seen e.at) x c k) var w)

    back : (c : Place) (k : ℕ) → RacesWith R (seen f.at) f.var c k → RacesWith R (seen e.at) e.var c k
    back c k w = subst (λ p. RacesWith R (seen p) e.var c k) (sym at) (subst (λ x. RacesWith R (seen f.at) x c k) (sym var) w)

    number : a.number ≡ b.number
    number =
        let l = a.latest (seen f.other) b.number (back (seen f.other) b.number b.culprit) in
        let m = b.latest (seen e.other) a.number (to (seen e.other) a.number a.culprit) in omega arith

    other : e.other ≡ f.other
    other =
        let x = a.culprit in
        let y : RacesWith R (seen e.at) e.var (seen f.other) a.number =
        subst (RacesWith R (seen e.at) e.var (seen f.other)) (sym number) (back (seen f.other) b.number b.culprit) in
        same_stored e.other f.other ((numbered e.var).1.once (seen e.other) (seen f.other) x.earlier y.earlier a.number x.there y.there
        (inr x.drawn) (inr y.drawn))

    leading : e.leading ≡ f.leading
    leading = one_led R (seen f.at) f.other.thread e.leading f.leading
        (subst (λ p. IsLed R (seen p) f.other.thread e.leading) at
        (subst (λ (p : StoredPlace). IsLed R (seen e.at) p.thread e.leading) other a.leading)) b.leading

    into : (c : Place) → Has a.races c → Has b.races c
    into c w =
        let r = (a.are_races.each c).0 (of_list a.races w.0 c w.1) in
        in_list b.races c ((b.are_races.each c).1 (r.0, to c r.0 r.1))

    onto : (c : Place) → Has b.races c → Has a.races c
    onto c w =
        let r = (b.are_races.each c).0 (of_list b.races w.0 c w.1) in
        in_list a.races c ((a.are_races.each c).1 (r.0, back c r.0 r.1))

    others : e.others ≡ f.others
    others =
        let same = same_length a.races b.races a.are_races.rising b.are_races.rising into onto in
        let x = a.others in let y = b.others in omega arith
