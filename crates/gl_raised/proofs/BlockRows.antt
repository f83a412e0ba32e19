-- The clocks of the blocks, one event after another.
use Rattle.std.proofs.Common.{◌≡◌, ℕ, zero, suc, ◌+◌, ◌<◌, ◌≤◌, List, [], ◌∷◌, ◌++◌, length, map, take, get_or, refl, ap, sym, ◌∙◌, subst, inl, inr, arith, Some}
use Rattle.std.specs.Prelude.{option_map, slice_get}
use Rattle.std.proofs.lemmas.Bool.{cases_lt}
use Rattle.std.proofs.lemmas.List.{length-append, take_more}
use Rattle.std.proofs.lemmas.Option.{slice_get_within, slice_get-get_or, get_or_from_slice_get, slice_get_cases, slice_get-map}
use Rattle.gl_clocks.specs.Clocks.{clocks}
use Rattle.gl_core.specs.Cells.{at, cell}
use Rattle.gl_core.specs.TablesView.{AreClocksOf, IsSized}
use Rattle.gl_core.specs.declared.tables.Tables.{Tables}
use Rattle.gl_model.specs.Edges.{EventAt}
use Rattle.gl_model.specs.Records.{Lists, Place, IsEventAt, IsEventList}
use Rattle.gl_model.specs.declared.event.Element.TheVariants.{Thread}
use Rattle.gl_model.specs.declared.event.Stamp.{Stamp}
use Rattle.gl_places.specs.Places.{AreEventPlaces, seen as seen_place}
use Rattle.gl_places.specs.declared.place.Place.{Place as StoredPlace}
use Rattle.gl_raised.specs.Rows.{AreBlockClocks, IsClockOfNext}

-- after i events
pub record AreRows (R : Lists) (i : ℕ) (rows : List (List ℕ)) (tables : Tables) : Type 0 where
  pub sized : IsSized tables
  pub long : length rows ≡ i
  pub clocks_are : (h : List Stamp) → IsEventList h R → AreClocksOf (take i h) tables
  pub known : (h : List Stamp) → IsEventList h R → (p u : ℕ) (s : Stamp) → p < i → EventAt h p s → cell rows p u
      ≡ clocks (take (p + 1) h) (Thread s.thread) u

-- with one clock put last, each row before it has the cells that it had
cell_old : (rows : List (List ℕ)) (clock : List ℕ) (p u : ℕ) → p < length rows → cell (rows ++ clock ∷ []) p u ≡ cell rows p u
cell_old [] clock p u l = absurd (omega arith)
cell_old (r ∷ rows) clock zero u l = refl
cell_old (r ∷ rows) clock (suc p) u l = cell_old rows clock p u (omega arith)

-- a cell in the row that is put last is that of the row's clock
cell_new : (rows : List (List ℕ)) (clock : List ℕ) (u : ℕ) → cell (rows ++ clock ∷ []) (length rows) u ≡ at clock u
cell_new [] clock u = refl
cell_new (r ∷ rows) clock u = cell_new rows clock u

-- rows with one more are longer by one
one_longer : (rows : List (List ℕ)) (clock : List ℕ) → length (rows ++ clock ∷ []) ≡ length rows + 1
one_longer rows clock = length-append rows (clock ∷ [])

-- the history up to one event more is the history up to it, and then the event
event_more : (h : List Stamp) (i : ℕ) (s : Stamp) → EventAt h i s → take (i + 1) h ≡ take i h ++ s ∷ []
event_more h i s e = take_more h i s (slice_get_within h i s e) ∙ ap (λ z. take i h ++ z ∷ []) (get_or_from_slice_get h i s s e)

-- the place at i, where the places are seen
pub place_at : (ps : List StoredPlace) (i : ℕ) (d : StoredPlace) → i < length ps → slice_get (map seen_place ps) i
    ≡ Some (seen_place (get_or ps i d))
place_at ps i d l = slice_get-map seen_place ps i ∙ ap (option_map seen_place) (slice_get-get_or ps i d l)

-- the rows and the tables go on being those of the events, with the clock of the next one put last
pub next_row :
    (R : Lists) (cs : List Place) (i : ℕ) (c : Place) (rows : List (List ℕ)) (clock : List ℕ) (old new : Tables) → AreEventPlaces R cs
    → slice_get cs i ≡ Some c → AreRows R i rows old → IsSized new →
    ((h : List Stamp) (p : ℕ) (s : Stamp) → IsEventAt R c p s → AreClocksOf h old → IsClockOfNext h s clock new)
    → AreRows R (i + 1) (rows ++ clock ∷ []) new
next_row R cs i c rows clock old new places here so_far sized next = record {
  sized = sized;
  long = one_longer rows clock ∙ ap (λ n. n + 1) so_far.long;
  clocks_are = λ h is. subst (λ k. AreClocksOf k new) (sym (more h is)) (step h is).tables_are;
  known = known;
}
  where
    event : (s : Stamp) × IsEventAt R c i s
    event = (places i c).0 here

    there : (h : List Stamp) → IsEventList h R → EventAt h i event.0
    there h is = is.listed c i event.0 event.1

    more : (h : List Stamp) → IsEventList h R → take (i + 1) h ≡ take i h ++ event.0 ∷ []
    more h is = event_more h i event.0 (there h is)

    step : (h : List Stamp) → IsEventList h R → IsClockOfNext (take i h) event.0 clock new
    step h is = next (take i h) i event.0 event.1 (so_far.clocks_are h is)

    known : (h : List Stamp) → IsEventList h R → (p u : ℕ) (s : Stamp) → p < i + 1 → EventAt h p s → cell (rows ++ clock ∷ []) p u
        ≡ clocks (take (p + 1) h) (Thread s.thread) u
    known h is p u s l e = elim (cases_lt p i) [
      | inl lt ↦ cell_old rows clock p u (let z = so_far.long in omega arith) ∙ so_far.known h is p u s lt e
      | inr ge ↦
          (let last : p ≡ i = omega arith in
          let at_end : p ≡ length rows = (let z = so_far.long in omega arith) in
          let same : s ≡ event.0 = (let x : EventAt h i s = subst (λ k. EventAt h k s) last e in let y = there h is in cc) in
          ap (λ k. cell (rows ++ clock ∷ []) k u) at_end ∙ cell_new rows clock u ∙ (step h is).clock_is u
          ∙ ap (λ g. clocks g (Thread event.0.thread) u) (sym (more h is))
          ∙ ap (λ k. clocks (take (k + 1) h) (Thread event.0.thread) u) (sym last)
          ∙ ap (λ (r : Stamp). clocks (take (p + 1) h) (Thread r.thread) u) (sym same))
    ]

-- all of them
pub all_rows : (R : Lists) (cs : List Place) (rows : List (List ℕ)) (tables : Tables) → AreEventPlaces R cs
    → AreRows R (length cs) rows tables → (h : List Stamp) → IsEventList h R → AreBlockClocks h rows
all_rows R cs rows tables places all h is =
    record {
      long = all.long ∙ as_many;
      known = λ p u s e. all.known h is p u s (let l = slice_get_within h p s e in let z = as_many in omega arith) e;
    }
  where
    no_more : length h ≤ length cs
    no_more = elim (cases_lt (length cs) (length h)) [
      | inr ge ↦ ge
      | inl lt ↦ elim (slice_get_cases h (length cs)).1 [
        | inr none ↦ absurd (let z = none.0 in omega arith)
        | inl some ↦
            (let m = is.made (length cs) some.0 some.2 in
            let at = (places (length cs) m.0).1 (some.0, m.1) in
            absurd (let l = slice_get_within cs (length cs) m.0 at in omega arith))
      ]
    ]

    no_fewer : length cs ≤ length h
    no_fewer = elim (cases_lt (length h) (length cs)) [
      | inr ge ↦ ge
      | inl lt ↦ elim (slice_get_cases cs (length h)).1 [
        | inr none ↦ absurd (let z = none.0 in omega arith)
        | inl some ↦
            (let m = (places (length h) some.0).0 some.2 in
            absurd (let l = slice_get_within h (length h) m.0 (is.listed some.0 (length h) m.0 m.1) in omega arith))
      ]
    ]

    as_many : length cs ≡ length h
    as_many = let a = no_more in let b = no_fewer in omega arith
