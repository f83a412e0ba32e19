-- The lists of a record, by thread.
use Rattle.std.specs.Prelude.{ℕ, ◌==◌, nat_lt, if◌then◌else◌, List, [], ◌∷◌, ◌++◌, Option, Some, None, unwrap_or}
use Rattle.gl_model.specs.Entries.{Entry}

-- the list of thread t, if it has one
abbrev pub list_of : List (ℕ × List Entry) → ℕ → Option (List Entry)
list_of [] t = None
list_of (l ∷ ls) t = if l.0 == t then Some l.1 else list_of ls t

-- the entries of each thread, none where it has no list
abbrev pub lists_of : List (ℕ × List Entry) → ℕ → List Entry
lists_of record' t = unwrap_or (list_of record' t) []

-- the lists with one entry more, the last of thread t's: where t had no list, one is put in its place
abbrev pub with_last : ℕ → Entry → List (ℕ × List Entry) → List (ℕ × List Entry)
with_last t e [] = (t, e ∷ []) ∷ []
with_last t e (l ∷ ls) = if l.0 == t then (t, l.1 ++ e ∷ []) ∷ ls else if nat_lt t l.0 then (t, e ∷ []) ∷ (l ∷ ls) else l ∷ with_last t e ls
