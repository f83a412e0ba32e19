-- Where the text of an audit is cut in two: before the first line whose first word is `record`.
use Rattle.std.specs.Prelude.{◌≡◌, ℕ, ◌+◌, ◌≤◌, ◌<◌, ◌⊎◌, List, [], ◌∷◌, Bool, true, false, length, take, drop, slice_get, Some, bytes_eq, codes}
use Rattle.std.specs.List.{list_any}
use Rattle.std.specs.Str.Lines.{lines}
use Rattle.gl_text.specs.Text.{words}

-- the first of the words is `record`
abbrev pub is_record : List (List ℕ) → Bool
is_record [] = false
is_record (first ∷ others) = bytes_eq first (codes "record")

-- the line begins a record
abbrev pub begins_record : List ℕ → Bool
begins_record line = is_record (words line)

-- the first of the lines begins a record
abbrev pub first_begins_record : List (List ℕ) → Bool
first_begins_record [] = false
first_begins_record (line ∷ others) = begins_record line

-- the byte at this place is a line feed
abbrev pub IsLineFeedAt : List ℕ → ℕ → Type 0
IsLineFeedAt text i = slice_get text i ≡ Some 10

-- the place is between two lines: at the front, at the end, or just after a line feed
abbrev pub IsBetween : List ℕ → ℕ → Type 0
IsBetween text n = (n ≡ 0) ⊎ ((n ≡ length text) ⊎ ((k : ℕ) × (n ≡ k + 1) × IsLineFeedAt text k))

-- the first n bytes are whole lines, none of which begins a record; and what follows begins one, or nothing follows
pub record IsCutAt (text : List ℕ) (n : ℕ) : Type 0 where
  pub within : n ≤ length text
  pub between : IsBetween text n
  pub before : list_any begins_record (lines (take n text)) ≡ false
  pub after : (n ≡ length text) ⊎ (first_begins_record (lines (drop n text)) ≡ true)

-- the part is the text of the program
abbrev pub IsProgramText : List ℕ → List ℕ → Type 0
IsProgramText text part = (n : ℕ) × IsCutAt text n × (part ≡ take n text)

-- the first n bytes are the first line, with its line feed if it has one
abbrev pub IsLineEnd : List ℕ → ℕ → Type 0
IsLineEnd text n =
    ((k : ℕ) × (n ≡ k + 1) × IsLineFeedAt text k × ((i : ℕ) → i < k → IsLineFeedAt text i → ⊥))
    ⊎ ((n ≡ length text) × ((i : ℕ) → IsLineFeedAt text i → ⊥))
