-- A list of variables that is read from left to right.
use Rattle.std.specs.Prelude.{◌≡◌, ℕ, List, [], ◌∷◌, ◌++◌, Option, Some, None, true, IfSome}
use Rattle.std.specs.List.{slice_split}
use Rattle.std.specs.Borrow.{Bor}
use Rattle.gl_model.specs.declared.row.Item.{Item}
use Rattle.gl_model.specs.declared.row.Item.TheVariants.{Act as Acts, Access, Commit as Commits}
use Rattle.gl_trace.specs.Ids.{is_comma, is_set, as_set}

abbrev pub parts_left : Option (Bor (List ℕ)) → List (List ℕ)
parts_left None = []
parts_left (Some text) = slice_split is_comma text.now

-- the ids so far are a set, if anything is kept of them
abbrev pub IsKept : Option (List ℕ) → Type 0
IsKept kept = IfSome kept (λ ids. is_set ids ≡ true)

-- one more id
abbrev pub with_last : Option (List ℕ) → ℕ → Option (List ℕ)
with_last None id = None
with_last (Some ids) id = as_set (ids ++ id ∷ [])

-- the lists of a commit are sets
abbrev pub IsItemKept : Item → Type 0
IsItemKept (Acts act) = Unit {0}
IsItemKept (Access x write) = Unit {0}
IsItemKept (Commits reads writes) = (is_set reads ≡ true) × (is_set writes ≡ true)
