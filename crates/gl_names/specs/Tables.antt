-- Tables of names.
use Rattle.std.specs.Prelude.{◌≡◌, ℕ, List, Option, None, option_copied, slice_index_or}
use Rattle.std.specs.Borrow.{Bor}
use Rattle.gl_names.specs.declared.kind.Kind.{Kind}
use Rattle.gl_names.specs.Names.{name_of}

-- what stands in a table at a number, and nothing behind its end
abbrev pub slot : List (Option (Bor (List ℕ))) → ℕ → Option (List ℕ)
slot table n = option_copied (slice_index_or table n None)

-- the table has the name of each thing of the kind
abbrev pub IsTable : List ℕ → Kind → List (Option (Bor (List ℕ))) → Type 0
IsTable text kind table = (id : ℕ) → slot table id ≡ name_of text kind id
