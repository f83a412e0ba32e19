-- The order among the rows: that the arrows which are left out follow from those that are drawn.
use Rattle.std.specs.Prelude.{◌≡◌, ℕ, ◌<◌, List, slice_get, Some}
use Rattle.gl_model.specs.Edges.{TransitiveClosure}
use Rattle.gl_explain.specs.declared.told.Told.{Told}
use Rattle.gl_picture.specs.Arrows.{IsArrow, Leads}

-- one step from row i to row j: down to a later row of the same thread, or along an arrow
pub data Goes (rows : List Told) (i j : ℕ) : Type 0 where
  down : (a b : Told) → i < j → slice_get rows i ≡ Some a → slice_get rows j ≡ Some b → a.thread ≡ b.thread → Goes rows i j
  along : IsArrow rows i j → Goes rows i j

-- a way of one or more steps
abbrev pub HasWay : List Told → ℕ → ℕ → Type 0
HasWay rows = TransitiveClosure (Goes rows)

-- where a row synchronizes with a later one, it cannot be that no way leads there
abbrev pub OrderIsKept : Type 0
OrderIsKept =
    (rows : List Told) (i j : ℕ) (a b : Told) → i < j → slice_get rows i ≡ Some a → slice_get rows j ≡ Some b → Leads rows a b i j
    → (HasWay rows i j → ⊥) → ⊥
