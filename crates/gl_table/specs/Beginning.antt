-- What a table begins with, and its passes.
use Rattle.std.specs.Prelude.{ℕ, zero, suc, List, [], ◌∷◌}
use Rattle.atomic_table.specs.Seated.{TableId}
use Rattle.gl_rule.specs.View.{View, Shelf, shelf, blank}
use Rattle.gl_table.specs.PassView.{PassView, pass_of}

-- the first list of a seat, which goes to a new one, and those that stay
abbrev pub first_shelf : List Shelf → List Shelf
first_shelf [] = []
first_shelf (s ∷ l) = s ∷ []

abbrev pub other_shelves : List Shelf → List Shelf
other_shelves [] = []
other_shelves (s ∷ l) = l

abbrev pub first_of : View → View
first_of v = blank (first_shelf v.shelves)

abbrev pub rest_of : View → View
rest_of v = blank (other_shelves v.shelves)

-- a pass that has done nothing
abbrev pub fresh : TableId → ℕ → PassView
fresh z t = pass_of z t [] (blank (shelf t [] ∷ [])) 0

-- those of the threads t to t + n - 1
abbrev pub fresh_from : TableId → ℕ → ℕ → List PassView
fresh_from z t zero = []
fresh_from z t (suc n) = fresh z t ∷ fresh_from z (suc t) n
