-- A record is listed exactly where no place fails to be.
use Rattle.std.proofs.Common.{◌≡◌, ℕ, zero, suc, ◌+◌, ◌<◌, ◌≤◌, true, List, [], ◌∷◌, length, Option, Some, None, refl, sym, ◌∙◌, ap, inl, inr, arith}
use Rattle.std.specs.Prelude.{slice_get, ◌⊎◌, ◌↔◌}
use Rattle.std.specs.List.{range_with_len}
use Rattle.std.specs.Set.{is_member}
use Rattle.std.proofs.Math.Dec.{eqb}
use Rattle.std.proofs.lemmas.Bool.{cases_lt, cases_order}
use Rattle.std.proofs.lemmas.Cmp.{nat_eq_equiv}
use Rattle.std.proofs.lemmas.Option.{slice_get_within, slice_get_cases}
use Rattle.std.proofs.lemmas.List.FromFn.{length-range_with_len}
use Rattle.std.proofs.lemmas.Map.Made.{length-le_from_is_member}
use Rattle.gl_model.specs.declared.event.Event.{Event}
use Rattle.gl_model.specs.declared.event.Stamp.{Stamp}
use Rattle.gl_model.specs.Edges.{EventAt}
use Rattle.gl_model.specs.Entries.{Entry, Sync, Commit, Plain, Abort, Trim, Over}
use Rattle.gl_model.specs.Form.{Listed}
use Rattle.gl_model.specs.Kept.{IsRecord}
use Rattle.gl_model.specs.Lists.{lists_of}
use Rattle.gl_model.specs.Records.{EntryAt, IsEventAt, IsEventList, Lists, Place, event_of, position_of}
use Rattle.gl_places.specs.Uses.{IsWrongAt, PositionFailsAt, Use, numbers_in, one_or_none, positions_of, positions_on}
use Rattle.gl_places.proofs.Pigeons.{IsOnce, all_there, any_found, found_any, once_distinct}
use Rattle.gl_places.proofs.UsesMade.{Differ, IsAmong, is_used, not_twice, number_of, record_differ, use_is, use_of_number}

-- ## The position of one entry

-- the number that there is, is among it
among_one : (o : Option ℕ) (p : ℕ) → o ≡ Some p → IsAmong (one_or_none o) p
among_one None p is = cc
among_one (Some q) p is = (0, is)

-- what is among one number, or none, is that number
one_among : (o : Option ℕ) (p : ℕ) → IsAmong (one_or_none o) p → o ≡ Some p
one_among None p (k, at) = cc
one_among (Some q) p (zero, at) = at
one_among (Some q) p (suc k, at) = cc

-- one number, or none, has each once
one_once : (o : Option ℕ) → IsOnce (one_or_none o)
one_once None j k p less at also = cc
one_once (Some q) zero zero p less at also = omega arith
one_once (Some q) zero (suc k) p less at also = cc
one_once (Some q) (suc j) k p less at also = cc

-- an entry with a position is an event
event_there : (e : Entry) (p : ℕ) → position_of e ≡ Some p → (x : Event) × (event_of e ≡ Some x)
event_there (Sync at act value) p is = (_, refl)
event_there (Commit at tx) p is = (_, refl)
event_there (Plain x n k w v r) p is = cc
event_there (Abort tx why) p is = cc
event_there (Trim low) p is = cc
event_there (Over ending) p is = cc

-- an entry with a position is an event there
stamped : (R : Lists) (c : Place) (p : ℕ) (e : Entry) → EntryAt R c e → position_of e ≡ Some p → (s : Stamp) × IsEventAt R c p s
stamped R c p e there is =
    let x = event_there e p is in
    (record { thread = c.thread; event = x.0 }, record { entry = e; there = there; position = is; event = x.1; own = refl })

-- what stands at k of a range that begins at a is a + k, and k is below its length
pub range_at : (a n k p : ℕ) → slice_get (range_with_len a n) k ≡ Some p → (p ≡ a + k) × (k < n)
range_at a zero k p at = cc
range_at a (suc n) zero p at = (let same : a ≡ p = cc in (omega arith, omega arith))
range_at a (suc n) (suc k) p at = (let more = range_at (a + 1) n k p at in let first = more.0 in let second = more.1
    in (omega arith, omega arith))

-- a list of what there is for each number below n
collect :
    (n : ℕ) (Q : ℕ → Stamp → Type 0) → ((p : ℕ) → p < n → (s : Stamp) × Q p s) →
    (h : List Stamp) × (length h ≡ n) × ((p : ℕ) (s : Stamp) → EventAt h p s → Q p s)
collect zero Q each = ([], refl, λ p s at. cc)
collect (suc n) Q each =
    let first = each 0 (omega arith) in
    let more = collect n (λ p s. Q (suc p) s) (λ p less. each (suc p) (omega arith)) in
    (first.0 ∷ more.0, (let same = more.1 in omega arith), places first.0 more.0 first.1 more.2) where
      places : (x : Stamp) (h : List Stamp) → Q 0 x → ((p : ℕ) (s : Stamp) → EventAt h p s → Q (suc p) s) → (p : ℕ) (s : Stamp)
          → EventAt (x ∷ h) p s → Q p s
      places x h here later zero s at = (let same : x ≡ s = cc in rw (sym same) here)
      places x h here later (suc p) s at = later p s at

-- the place of a use, if there is one, and else c
abbrev pub place_or : Place → Option Use → Place
place_or c None = c
place_or c (Some u) = u.0

-- a use, by place and number
abbrev pub some_use : Place → ℕ → Option Use
some_use d n = Some (d, n)

module _ (made : List (ℕ × List Entry)) (kept : IsRecord made) where
  abbrev R : Lists
  R = lists_of made

  abbrev us : List Use
  us = positions_of made

  abbrev ns : List ℕ
  ns = numbers_in us

  -- no use of a position stands twice among those of the record
  differs : Differ us
  differs = record_differ positions_on made kept.0 (λ t j e at. one_once (position_of e))

  -- each position among the uses, with its place, is that of an event there
  pub event_of_use : (k p : ℕ) (c : Place) → slice_get us k ≡ Some (c, p) → (s : Stamp) × IsEventAt R c p s
  event_of_use k p c at = (let x = use_is positions_on made kept.0 (c, p) (k, at)
      in stamped R c p x.entry x.there (one_among (position_of x.entry) p x.among))

  -- the position of each event is among the uses, with its place
  pub use_of_event : (c : Place) (p : ℕ) (s : Stamp) → IsEventAt R c p s → (k : ℕ) × (slice_get us k ≡ Some (c, p))
  use_of_event c p s e = is_used positions_on made c.thread c.index p e.entry e.there (among_one (position_of e.entry) p e.position)

  -- ## A listed record fails nowhere

  -- the history of the record has at most as many events as the record has positions
  length_of : (h : List Stamp) → IsEventList h R → length h ≤ length ns
  length_of h is = rw (sym (length-range_with_len 0 (length h)))
      (length-le_from_is_member nat_eq_equiv (range_with_len 0 (length h)) ns (once_distinct (range_with_len 0 (length h)) once) within)
    where
      once : IsOnce (range_with_len 0 (length h))
      once j k p less at also =
          let one = (range_at 0 (length h) j p at).0 in
          let other = (range_at 0 (length h) k p also).0 in
          omega arith

      stamp_there : (p : ℕ) → p < length h → (s : Stamp) × EventAt h p s
      stamp_there p less = elim (slice_get_cases h p).1 [
        | inl there ↦ (there.0, there.2)
        | inr past ↦ (let ge = past.0 in absurd (omega arith))
      ]

      within : (q : ℕ) → is_member eqb (range_with_len 0 (length h)) q ≡ true → is_member eqb ns q ≡ true
      within q found =
          let place = found_any q (range_with_len 0 (length h)) found in
          let at = range_at 0 (length h) place.0 q place.1 in
          let same = at.0 in
          let below = at.1 in
          let less : q < length h = omega arith in
          let s = stamp_there q less in
          let e = is.made q s.0 s.1 in
          let k = use_of_event e.0 q s.0 e.1 in
          any_found q k.0 ns (number_of us k.0 (e.0, q) k.1)

  -- in a listed record no entry has a position that fails
  pub fails_not : Listed R → (c : Place) → PositionFailsAt made c → ⊥
  fails_not (h, is) c x = by_fault x.wrong.wrong where
    -- the number that is wrong is that of the use
    number_is : x.wrong.number ≡ x.number
    number_is = (let one = number_of us x.index (c, x.number) x.there in let other = x.wrong.there in cc)

    -- the number is neither too high nor there before
    by_fault : (length ns ≤ x.wrong.number) ⊎ ((j : ℕ) × (j < x.index) × (slice_get ns j ≡ Some x.wrong.number)) → ⊥
    by_fault (inl ge) =
        let e = event_of_use x.index x.number c x.there in
        let within = slice_get_within h x.number e.0 (is.listed c x.number e.0 e.1) in
        let few = length_of h is in
        let same = number_is in
        omega arith
    by_fault (inr (j, less, at)) =
        let earlier = use_of_number us j x.wrong.number at in
        let there : slice_get us j ≡ Some (earlier.0, x.number) = earlier.1 ∙ ap (λ n. some_use earlier.0 n) number_is in
        let e = event_of_use x.index x.number c x.there in
        let f = event_of_use j x.number earlier.0 there in
        let same : earlier.0 ≡ c = is.once earlier.0 c x.number f.0 e.0 f.1 e.1 in
        let moved : slice_get us j ≡ Some (c, x.number) = there ∙ ap (λ d. some_use d x.number) same in
        not_twice us j x.index (c, x.number) differs less moved x.there

  -- ## A record that fails nowhere is listed

  module _ (nowhere : (c : Place) → PositionFailsAt made c → ⊥) where
    -- no number among the record's positions is wrong
    right : (k : ℕ) → IsWrongAt ns k → ⊥
    right k wrong = (let u = use_of_number us k wrong.number wrong.there
        in nowhere u.0 (record { number = wrong.number; index = k; there = u.1; wrong = wrong }))

    -- two events of one place and one position are the same
    same_entry : (c : Place) (p : ℕ) (s r : Stamp) → IsEventAt R c p s → IsEventAt R c p r → s ≡ r
    same_entry c p s r one other =
        let here = one.there in
        let also = other.there in
        let entries : one.entry ≡ other.entry = cc in
        let event_s = one.event in
        let event_r = other.event in
        let moved : event_of one.entry ≡ Some r.event = rw entries event_r in
        let events : s.event ≡ r.event = cc in
        let threads : s.thread ≡ r.thread = one.own ∙ sym other.own in
        stamps s.thread r.thread s.event r.event threads events where
          stamp : ℕ → Event → Stamp
          stamp t x = record { thread = t; event = x }

          stamps : (t u : ℕ) (x y : Event) → t ≡ u → x ≡ y → stamp t x ≡ stamp u y
          stamps t u x y same equal = rw (same, equal) refl

    -- two places of events at one position are the same
    once : (c d : Place) (p : ℕ) (s r : Stamp) → IsEventAt R c p s → IsEventAt R d p r → c ≡ d
    once c d p s r one other = by_order (cases_order j.0 k.0) where
      j : (i : ℕ) × (slice_get us i ≡ Some (c, p))
      j = use_of_event c p s one

      k : (i : ℕ) × (slice_get us i ≡ Some (d, p))
      k = use_of_event d p r other

      n_j : slice_get ns j.0 ≡ Some p
      n_j = number_of us j.0 (c, p) j.1

      n_k : slice_get ns k.0 ≡ Some p
      n_k = number_of us k.0 (d, p) k.1

      by_order : (j.0 ≡ k.0) ⊎ ((j.0 < k.0) ⊎ (k.0 < j.0)) → c ≡ d
      by_order (inl same) = (let at_k : slice_get us j.0 ≡ Some (d, p) = rw same k.1 in ap (place_or c) (sym j.1 ∙ at_k))
      by_order (inr (inl less)) = absurd (right k.0 (record { number = p; there = n_k; wrong = inr (j.0, less, n_j) }))
      by_order (inr (inr less)) = absurd (right j.0 (record { number = p; there = n_j; wrong = inr (k.0, less, n_k) }))

    -- the record is listed
    listed : Listed R
    listed = (
      all.0,
      record {
        listed = λ c p s e. at_its_place c p s e;
        made = λ p s at. all.2 p s at;
        once = once;
      },
    ) where
      IsThere : ℕ → Stamp → Type 0
      IsThere p s = (c : Place) × IsEventAt R c p s

      there : (p : ℕ) → p < length ns → (s : Stamp) × IsThere p s
      there p less =
          let k = all_there ns right p less in
          let u = use_of_number us k.0 p k.1 in
          let e = event_of_use k.0 p u.0 u.1 in
          (e.0, (u.0, e.1))

      all : (h : List Stamp) × (length h ≡ length ns) × ((p : ℕ) (s : Stamp) → EventAt h p s → IsThere p s)
      all = collect (length ns) IsThere there

      below : (k p : ℕ) → slice_get ns k ≡ Some p → p < length ns
      below k p at = elim (cases_lt p (length ns)) [
        | inl lt ↦ lt
        | inr ge ↦ absurd (right k (record { number = p; there = at; wrong = inl ge }))
      ]

      at_its_place : (c : Place) (p : ℕ) (s : Stamp) → IsEventAt R c p s → EventAt all.0 p s
      at_its_place c p s e =
          let k = use_of_event c p s e in
          let n_k = number_of us k.0 (c, p) k.1 in
          let many = all.1 in
          let less : p < length all.0 = (let lt : p < length ns = below k.0 p n_k in omega arith) in
          elim (slice_get_cases all.0 p).1 [
            | inl found ↦
                (let x = all.2 p found.0 found.2 in
                let same : c ≡ x.0 = once c x.0 p s found.0 e x.1 in
                let moved : IsEventAt R c p found.0 = rw same x.1 in
                let stamps = same_entry c p s found.0 e moved in
                found.2 ∙ ap Some (sym stamps))
            | inr past ↦ (let ge = past.0 in absurd (omega arith))
          ]

-- a record is listed exactly where no position fails
pub listed_exactly : (made : List (ℕ × List Entry)) → IsRecord made → Listed (lists_of made) ↔ ((c : Place) → PositionFailsAt made c → ⊥)
listed_exactly made kept = (fails_not made kept, listed made kept)
