-- The places of a listed record's events, put down one after another, each at its position.
use Rattle.std.proofs.Common.{◌≡◌, ◌≢◌, ℕ, zero, suc, ◌+◌, ◌<◌, ◌≤◌, List, [], ◌∷◌, length, map, Option, None, Some, refl, sym, ◌∙◌, ap, inl, inr, arith}
use Rattle.std.specs.Prelude.{slice_get, slice_set, ◌⊎◌}
use Rattle.std.proofs.lemmas.Bool.{cases_lt}
use Rattle.std.proofs.lemmas.Option.{slice_get_within}
use Rattle.std.proofs.lemmas.List.{length-map}
use Rattle.gl_model.specs.declared.event.Stamp.{Stamp}
use Rattle.gl_model.specs.Entries.{Entry}
use Rattle.gl_model.specs.Form.{Listed}
use Rattle.gl_model.specs.Kept.{IsRecord}
use Rattle.gl_model.specs.Lists.{lists_of}
use Rattle.gl_model.specs.Records.{IsEventAt, Place}
use Rattle.gl_places.specs.declared.place.Place.{Place as StoredPlace}
use Rattle.gl_places.specs.declared.uses.Use.{Use as StoredUse}
use Rattle.gl_places.specs.Places.{AreEventPlaces, seen}
use Rattle.gl_places.specs.Uses.{IsWrongAt, Use, numbers_in, positions_of, use_seen}
use Rattle.gl_places.proofs.ListedLaw.{event_of_use, fails_not, use_of_event}
use Rattle.gl_places.proofs.Pigeons.{all_there}
use Rattle.gl_places.proofs.UsesMade.{number_of, use_of_number}

-- of these uses the places of the first k are put down at their numbers
pub record ArePut (us : List Use) (k : ℕ) (cs : List Place) : Type 0 where
  pub long : length cs ≡ length us
  pub each : (j p : ℕ) (c : Place) → j < k → slice_get us j ≡ Some (c, p) → slice_get cs p ≡ Some c

-- a list in which one place is put is as long as before
set_length : (cs : List Place) (i : ℕ) (c : Place) → length (slice_set cs i c) ≡ length cs
set_length [] i c = refl
set_length (x ∷ cs) zero c = refl
set_length (x ∷ cs) (suc i) c = (let more = set_length cs i c in omega arith)

-- what was put at i stands there, where i is within the list
set_same : (cs : List Place) (i : ℕ) (c : Place) → i < length cs → slice_get (slice_set cs i c) i ≡ Some c
set_same [] i c less = absurd (omega arith)
set_same (x ∷ cs) zero c less = refl
set_same (x ∷ cs) (suc i) c less = set_same cs i c (omega arith)

-- anywhere else stands what stood there
set_other : (cs : List Place) (i j : ℕ) (c : Place) → i ≢ j → slice_get (slice_set cs i c) j ≡ slice_get cs j
set_other [] i j c other = refl
set_other (x ∷ cs) zero zero c other = absurd (other refl)
set_other (x ∷ cs) zero (suc j) c other = refl
set_other (x ∷ cs) (suc i) zero c other = refl
set_other (x ∷ cs) (suc i) (suc j) c other = set_other cs i j c (λ same. other (ap suc same))

-- the use, if there is one
abbrev use_or : Place → Option Use → Use
use_or c None = (c, 0)
use_or c (Some u) = u

-- what is read of a list of uses that stands for these, and written to a list of places
module _ (items : List StoredUse) (us : List Use) (are : map use_seen items ≡ us) where
  -- there are as many of the stored uses as of the uses
  pub all_uses : length items ≡ length us
  all_uses = sym (length-map items use_seen) ∙ ap length are

  -- any places, as many as the uses, are right as far as no use was put down
  pub put_none : (places : List StoredPlace) → length places ≡ length items → ArePut us 0 (map seen places)
  put_none places long = record { long = length-map places seen ∙ long ∙ all_uses; each = λ j p c less at. absurd (omega arith) }

module _ (made : List (ℕ × List Entry)) (kept : IsRecord made) (listed : Listed (lists_of made)) where
  abbrev us : List Use
  us = positions_of made

  abbrev ns : List ℕ
  ns = numbers_in us

  -- no number among the record's positions is wrong
  right : (k : ℕ) → IsWrongAt ns k → ⊥
  right k wrong =
      let u = use_of_number us k wrong.number wrong.there in
      fails_not made kept listed u.0 (record { number = wrong.number; index = k; there = u.1; wrong = wrong })

  -- there are as many numbers as uses
  many : length ns ≡ length us
  many = length-map us (λ (u : Use). u.1)

  -- the position of an event has a place
  pub within : (k p : ℕ) (c : Place) → slice_get us k ≡ Some (c, p) → p < length us
  within k p c at = (let n = number_of us k (c, p) at in let long = many in elim (cases_lt p (length ns)) [
    | inl lt ↦ omega arith
    | inr ge ↦ absurd (right k (record { number = p; there = n; wrong = inl ge }))
  ])

  -- one place more is put down
  pub put_more :
      (k p : ℕ) (c : Place) (cs new : List Place) → ArePut us k cs → slice_get us k ≡ Some (c, p) → new ≡ slice_set cs p c
      → ArePut us (k + 1) new
  put_more k p c cs new put at is = record {
    long = ap length is ∙ set_length cs p c ∙ put.long;
    each = λ j q d less there. each j q d less there (cases_lt j k);
  } where
    -- the new places are the old ones with c set at p
    in_new : (q : ℕ) → slice_get new q ≡ slice_get (slice_set cs p c) q
    in_new q = ap (λ (ds : List Place). slice_get ds q) is

    -- each of the first k + 1 uses has its place put down at its number
    each : (j q : ℕ) (d : Place) → j < k + 1 → slice_get us j ≡ Some (d, q) → (j < k) ⊎ (k ≤ j) → slice_get new q ≡ Some d
    each j q d less there (inl lt) =
        let other : p ≢ q =
        λ same. right k (record {
          number = p;
          there = number_of us k (c, p) at;
          wrong = inr (j, lt, number_of us j (d, q) there ∙ ap Some (sym same));
        }) in
        in_new q ∙ set_other cs p q c other ∙ put.each j q d lt there
    each j q d less there (inr ge) =
        let same : j ≡ k = omega arith in
        let here : slice_get us k ≡ Some (d, q) = rw (sym same) there in
        let uses : use_or c (Some (c, p)) ≡ use_or c (Some (d, q)) = ap (use_or c) (sym at ∙ here) in
        let one : p ≡ q = ap (λ (u : Use). u.1) uses in
        let place : c ≡ d = ap (λ (u : Use). u.0) uses in
        let long = put.long in
        let has = within k p c at in
        in_new q ∙ ap (slice_get (slice_set cs p c)) (sym one) ∙ set_same cs p c (omega arith) ∙ ap Some place

  -- all are put down
  pub put_all : (k : ℕ) (cs : List Place) → length us ≤ k → ArePut us k cs → AreEventPlaces (lists_of made) cs
  put_all k cs whole put p c = (event, place) where
    -- if c is put down at p, it is the place of an event at position p
    event : slice_get cs p ≡ Some c → (s : Stamp) × IsEventAt (lists_of made) c p s
    event at =
        let has = slice_get_within cs p c at in
        let long = put.long in
        let same = many in
        let j = all_there ns right p (omega arith) in
        let u = use_of_number us j.0 p j.1 in
        let less = slice_get_within us j.0 (u.0, p) u.1 in
        let there = put.each j.0 p u.0 (omega arith) u.1 in
        let is : u.0 ≡ c = cc in
        rw (sym is) (event_of_use made kept j.0 p u.0 u.1)

    -- if c is the place of an event at position p, it is put down at p
    place : (s : Stamp) × IsEventAt (lists_of made) c p s → slice_get cs p ≡ Some c
    place e =
        let k' = use_of_event made kept c p e.0 e.1 in
        let less = slice_get_within us k'.0 (c, p) k'.1 in
        put.each k'.0 p c (omega arith) k'.1
