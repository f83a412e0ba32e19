-- What a table begins with.
use Rattle.std.specs.Prelude.{ℕ, zero, suc, List, [], ◌∷◌, replicate}
use Rattle.gl_rule.specs.declared.slot.Slot.{Slot}
use Rattle.gl_rule.specs.declared.slot.Slot.TheVariants as slot
use Rattle.gl_state.specs.ListView.{ListView}
use Rattle.gl_state.specs.Starting.{empty_row}
use Rattle.gl_rule.specs.Objects.{Key, capacity, word_count}
use Rattle.gl_rule.specs.View.{Shelf, shelf}
use Rattle.gl_model.specs.declared.limits.TheConstants.{THREADS, VARIABLES}

-- the words: all turns are free, no event was made, no number drawn, and no hold raised
abbrev pub first_words : Key → List ℕ
first_words key = replicate (word_count (capacity key)) 0

-- the slots: the list's state, and a row for each variable
abbrev pub first_slots : ListView → List Slot
first_slots l = slot.List l ∷ replicate VARIABLES (slot.Row empty_row)

-- the empty shelves of the threads t to t + n - 1
abbrev pub shelves_from : ℕ → ℕ → List Shelf
shelves_from t zero = []
shelves_from t (suc n) = shelf t [] ∷ shelves_from (suc t) n

-- an empty shelf for each thread
abbrev pub empty_shelves : List Shelf
empty_shelves = shelves_from 0 THREADS
