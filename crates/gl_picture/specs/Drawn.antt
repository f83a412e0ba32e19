-- What of a trace is drawn: the lines from some before the one that the race is with up to the race, without those in the middle where
-- they are too many.
use Rattle.std.specs.Prelude.{◌≡◌, ℕ, ◌+◌, ◌-◌, ◌==◌, if◌then◌else◌, List, [], ◌∷◌, ◌++◌, length, take, drop, nat_le, nat_lt, slice_get, Some}
use Rattle.gl_model.specs.declared.limits.TheConstants.{THREADS}
use Rattle.gl_explain.specs.declared.told.Told.{Told}
use Rattle.gl_explain.specs.declared.told.Explanation.{Explanation}
use Rattle.gl_explain.specs.declared.told.First.{First}
use Rattle.gl_picture.specs.declared.picture.TheConstants.{LEAD, HALF}
use Rattle.gl_picture.specs.declared.picture.Column.{Column}
use Rattle.gl_picture.specs.declared.picture.Row.{Row}
use Rattle.gl_picture.specs.declared.picture.Picture.{Picture}
use Rattle.gl_picture.specs.Arrows.{HasRow, IsArrow, Selects}

-- the lines from the first that is drawn up to the race
abbrev pub span : {A : Type 0} → ℕ → ℕ → List A → List A
span place race lines = drop (place - LEAD) (take (race + 1) lines)

-- the first and the last of these, where they are too many: the rows
abbrev pub rows_of : {A : Type 0} → List A → List A
rows_of lines = if nat_le (length lines) (HALF + HALF) then lines else take HALF lines ++ drop (length lines - HALF) lines

-- how many are left out between
abbrev pub left_out_of : {A : Type 0} → List A → ℕ
left_out_of lines = length lines - (HALF + HALF)

-- how many rows stand above row i, with the note that says how many lines are left out
abbrev pub slot_of : ℕ → ℕ → ℕ
slot_of left i = if left == 0 then i else if nat_lt i HALF then i else i + 1

-- row i: its line, where it stands, and the rows that arrows lead here from
pub record IsRow (rows : List Told) (left i : ℕ) (r : Row) : Type 0 where
  pub line : slice_get rows i ≡ Some r.told
  pub slot : r.slot ≡ slot_of left i
  pub arrows : Selects (λ h. IsArrow rows h i) i r.from.items

pub record AreRows (rows : List Told) (left : ℕ) (drawn : List Row) : Type 0 where
  pub all : length drawn ≡ length rows
  pub each : (i : ℕ) (r : Row) → slice_get drawn i ≡ Some r → IsRow rows left i r

-- the columns of the threads below n that are such, by rising thread, counted from 0
pub data AreColumns (P : ℕ → Type 0) : ℕ → List Column → Type 0 where
  no_column : AreColumns P 0 []
  one_column : (n : ℕ) (cs : List Column) → AreColumns P n cs → P n → AreColumns P (n + 1) (cs
      ++ record { thread = n; at = length cs } ∷ [])
  not_a_column : (n : ℕ) (cs : List Column) → AreColumns P n cs → (P n → ⊥) → AreColumns P (n + 1) cs

-- these rows are drawn, with so many lines left out, for the race that is explained
pub record IsDrawn (rows : List Told) (left : ℕ) (e : Explanation) (p : Picture) : Type 0 where
  pub left_out : p.left_out ≡ left
  pub rows_are : AreRows rows left p.rows.items
  pub height : p.height ≡ slot_of left (length rows)
  -- a column for each thread of a row
  pub columns_are : AreColumns (λ t. HasRow rows t 0 (length rows)) THREADS p.columns.items
  pub width : p.width ≡ length p.columns.items
  -- which rows are marked: the line that the race is with, and the race, which is the last
  pub other : slice_get rows p.other ≡ Some e.other
  pub race : slice_get rows p.race ≡ Some e.at
  pub last : p.race + 1 ≡ length rows

-- the picture of the first race of these lines
abbrev pub IsPicture : List Told → First → Picture → Type 0
IsPicture told f p = let lines = span f.explanation.place f.race told in IsDrawn (rows_of lines) (left_out_of lines) f.explanation p
