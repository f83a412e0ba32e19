-- A record is numbered exactly where no place fails to be.
use Rattle.std.proofs.Common.{◌≡◌, ℕ, zero, suc, ◌<◌, ◌≤◌, Bool, true, false, List, [], ◌∷◌, length, Some, refl, sym, ◌∙◌, ap, inl, inr, arith}
use Rattle.std.specs.Prelude.{slice_get, ◌⊎◌, ◌↔◌}
use Rattle.std.specs.List.{AllByRecursion, range_with_len}
use Rattle.std.specs.Set.{is_member}
use Rattle.std.proofs.Math.Dec.{eqb}
use Rattle.std.proofs.lemmas.Bool.{cases_lt, cases_order}
use Rattle.std.proofs.lemmas.Cmp.{nat_eq_equiv}
use Rattle.std.proofs.lemmas.List.FromFn.{length-range_with_len}
use Rattle.std.proofs.lemmas.Map.Made.{length-le_from_is_member}
use Rattle.gl_model.specs.Entries.{Entry}
use Rattle.gl_model.specs.Form.{Draws, Form, Numbered, NumberedBelow}
use Rattle.gl_model.specs.Kept.{IsEntryKept, IsListKept, IsRecord}
use Rattle.gl_model.specs.Lists.{lists_of}
use Rattle.gl_model.specs.Records.{At, EntryAt, Lists, Place}
use Rattle.std.specs.Prelude.{◌==◌}
use Rattle.gl_places.specs.Uses.{IsWrongAt, Use, numbers_in}
use Rattle.gl_places.proofs.ListedLaw.{range_at, place_or, some_use}
use Rattle.gl_places.proofs.Pigeons.{IsOnce, all_there, any_found, found_any, once_distinct}
use Rattle.gl_places.proofs.UsesMade.{Differ, is_used, not_twice, number_of, record_differ, use_is, use_of_number}
use Rattle.gl_listing.specs.Numbering.{NumberFailsAt, draws_of, draws_on}
use Rattle.gl_listing.proofs.Apart.{apart}
use Rattle.gl_listing.proofs.DrawLists.{draws_in, draws_are, entry_once}

-- each entry of a record keeps to its ids
pub entry_kept : (es : List Entry) → AllByRecursion IsEntryKept es → (j : ℕ) (e : Entry) → At es j e → IsEntryKept e
entry_kept [] all j e at = cc
entry_kept (x ∷ es) all zero e at = (let same : x ≡ e = cc in rw (sym same) all.0)
entry_kept (x ∷ es) all (suc j) e at = entry_kept es all.1 j e at

-- each entry of kept lists keeps to the ids that there are
all_kept : (made : List (ℕ × List Entry)) → AllByRecursion IsListKept made → (t j : ℕ) (e : Entry) → At (lists_of made t) j e
    → IsEntryKept e
all_kept [] all t j e at = cc
all_kept (l ∷ ls) all t j e at = by_test (l.0 == t) refl (λ a. all_kept ls all.1 t j e a) where
  by_test : (b : Bool) → (l.0 == t) ≡ b → (At (lists_of ls t) j e → IsEntryKept e) → IsEntryKept e
  by_test true same more =
      let mine : lists_of (l ∷ ls) t ≡ l.1 = rw same refl in
      entry_kept l.1 all.0.2 j e (ap (λ (es : List Entry). slice_get es j) (sym mine) ∙ at)
  by_test false other more =
      let others : lists_of (l ∷ ls) t ≡ lists_of ls t = rw other refl in
      more (ap (λ (es : List Entry). slice_get es j) (sym others) ∙ at)

module _ (made : List (ℕ × List Entry)) (kept : IsRecord made) (form : Form (lists_of made)) (y : ℕ) where
  abbrev R : Lists
  R = lists_of made

  abbrev us : List Use
  us = draws_of y made

  abbrev ns : List ℕ
  ns = numbers_in us

  -- no use stands in the list of the uses of y twice
  differs : Differ us
  differs = record_differ (draws_on y) made kept.0
      (λ t j e at. entry_once y t e (all_kept made kept.1 t j e at) ((form.formed t).well_formed j e at))

  -- each number in the list of the uses of y was drawn on y by an entry at the use's place
  draw_of_use : (k p : ℕ) (c : Place) → slice_get us k ≡ Some (c, p) → (e : Entry) × EntryAt R c e × Draws e y p
  draw_of_use k p c at = (let x = use_is (draws_on y) made kept.0 (c, p) (k, at) in (x.entry, x.there, draws_are y p x.entry x.among))

  -- each number that an entry drew on y is in the list of uses, with the entry's place
  use_of_draw : (c : Place) (p : ℕ) (e : Entry) → EntryAt R c e → Draws e y p → (k : ℕ) × (slice_get us k ≡ Some (c, p))
  use_of_draw c p e there draws = is_used (draws_on y) made c.thread c.index p e there (draws_in y p e draws)

  module _ (m : ℕ) (below : NumberedBelow R y m) where
    -- where the numbers drawn on y are those below m, the list has at least m of them
    length_of : m ≤ length ns
    length_of = rw (sym (length-range_with_len 0 m))
        (length-le_from_is_member nat_eq_equiv (range_with_len 0 m) ns (once_distinct (range_with_len 0 m) once) within) where
          once : IsOnce (range_with_len 0 m)
          once j k p less at also =
              let one = (range_at 0 m j p at).0 in
              let other = (range_at 0 m k p also).0 in
              omega arith

          within : (q : ℕ) → is_member eqb (range_with_len 0 m) q ≡ true → is_member eqb ns q ≡ true
          within q found =
              let place = found_any q (range_with_len 0 m) found in
              let at = range_at 0 m place.0 q place.1 in
              let same = at.0 in
              let lt = at.1 in
              let d = below.drawn q (omega arith) in
              let k = use_of_draw d.0 q d.1.0 d.1.1 d.1.2 in
              any_found q k.0 ns (number_of us k.0 (d.0, q) k.1)

    -- where the numbers drawn on y are those below m, each drawn once, no number in the list is wrong
    never_wrong : (c : Place) (number index : ℕ) → slice_get us index ≡ Some (c, number) → IsWrongAt ns index → ⊥
    never_wrong c number index there x = by_fault x.wrong where
      number_is : x.number ≡ number
      number_is = (let one = number_of us index (c, number) there in let other = x.there in cc)

      by_fault : (length ns ≤ x.number) ⊎ ((j : ℕ) × (j < index) × (slice_get ns j ≡ Some x.number)) → ⊥
      by_fault (inl ge) =
          let d = draw_of_use index number c there in
          let less = below.below c d.0 number d.1 d.2 in
          let many = length_of in
          let same = number_is in
          omega arith
      by_fault (inr (j, less, at)) =
          let earlier = use_of_number us j x.number at in
          let there' : slice_get us j ≡ Some (earlier.0, number) = earlier.1 ∙ ap (λ n. some_use earlier.0 n) number_is in
          let d = draw_of_use index number c there in
          let f = draw_of_use j number earlier.0 there' in
          let same : earlier.0 ≡ c = below.once earlier.0 c f.0 d.0 number f.1 d.1 f.2 d.2 in
          let moved : slice_get us j ≡ Some (c, number) = there' ∙ ap (λ b. some_use b number) same in
          not_twice us j index (c, number) differs less moved there

  module _ (right : (k : ℕ) → IsWrongAt ns k → ⊥) where
    -- where no number in the list is wrong, each is below how many there are
    under : (k p : ℕ) → slice_get ns k ≡ Some p → p < length ns
    under k p at = elim (cases_lt p (length ns)) [
      | inl lt ↦ lt
      | inr ge ↦ absurd (right k (record { number = p; there = at; wrong = inl ge }))
    ]

    -- where no number in the list is wrong, two entries that drew one number on y stand at one place
    once_there : (c d : Place) (e f : Entry) (p : ℕ) → EntryAt R c e → EntryAt R d f → Draws e y p → Draws f y p → c ≡ d
    once_there c d e f p at also one other = by_order (cases_order j.0 k.0) where
      j : (i : ℕ) × (slice_get us i ≡ Some (c, p))
      j = use_of_draw c p e at one

      k : (i : ℕ) × (slice_get us i ≡ Some (d, p))
      k = use_of_draw d p f also other

      n_j : slice_get ns j.0 ≡ Some p
      n_j = number_of us j.0 (c, p) j.1

      n_k : slice_get ns k.0 ≡ Some p
      n_k = number_of us k.0 (d, p) k.1

      by_order : (j.0 ≡ k.0) ⊎ ((j.0 < k.0) ⊎ (k.0 < j.0)) → c ≡ d
      by_order (inl same) = (let at_k : slice_get us j.0 ≡ Some (d, p) = rw same k.1 in ap (place_or c) (sym j.1 ∙ at_k))
      by_order (inr (inl less)) = absurd (right k.0 (record { number = p; there = n_k; wrong = inr (j.0, less, n_j) }))
      by_order (inr (inr less)) = absurd (right j.0 (record { number = p; there = n_j; wrong = inr (k.0, less, n_k) }))

    -- where no number in the list is wrong, the numbers drawn on y are those below how many there are, each drawn once
    numbered_below : NumberedBelow R y (length ns)
    numbered_below = record {
      below = λ c e p there draws. let k = use_of_draw c p e there draws in under k.0 p (number_of us k.0 (c, p) k.1);
      drawn = λ p less. found p (all_there ns right p less);
      once = λ c d e f p at also one other. once_there c d e f p at also one other;
      apart = λ c e p there look own. apart R form c e y p there look own;
    } where
      found : (p : ℕ) → (k : ℕ) × (slice_get ns k ≡ Some p) → (c : Place) × ((e : Entry) × EntryAt R c e × Draws e y p)
      found p k =
          let u = use_of_number us k.0 p k.1 in
          let d = draw_of_use k.0 p u.0 u.1 in
          (u.0, d)

-- a record of the form is numbered exactly where no place fails to be
pub numbered_exactly : (made : List (ℕ × List Entry)) → IsRecord made → Form (lists_of made)
    → Numbered (lists_of made) ↔ ((c : Place) → NumberFailsAt made c → ⊥)
numbered_exactly made kept form = (forth, back) where
  forth : Numbered (lists_of made) → (c : Place) → NumberFailsAt made c → ⊥
  forth numbered c (y, x) = never_wrong made kept form y (numbered y).0 (numbered y).1 c x.number x.index x.there x.wrong

  back : ((c : Place) → NumberFailsAt made c → ⊥) → Numbered (lists_of made)
  back nowhere y = (length (numbers_in (draws_of y made)), numbered_below made kept form y right) where
    right : (k : ℕ) → IsWrongAt (numbers_in (draws_of y made)) k → ⊥
    right k wrong =
        let u = use_of_number (draws_of y made) k wrong.number wrong.there in
        nowhere u.0 (y, record { number = wrong.number; index = k; there = u.1; wrong = wrong })
