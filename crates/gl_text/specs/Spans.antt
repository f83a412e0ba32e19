-- Where the words of a line stand.
use Rattle.std.specs.Prelude.{◌≡◌, ℕ, ◌+◌, ◌<◌, ◌≤◌, List, [], ◌∷◌, length, map, slice_get, slice_range, Some}
use Rattle.std.specs.List.{slice_split, before_first}
use Rattle.gl_text.specs.Text.{is_blank, is_hash, words}

-- the places of the parts that are not empty, where the first begins at this place and one byte stands between two
abbrev pub spans_from : ℕ → List (List ℕ) → List (ℕ × ℕ)
spans_from at [] = []
spans_from at ([] ∷ ps) = spans_from (at + 1) ps
spans_from at ((b ∷ bs) ∷ ps) = (at, at + length (b ∷ bs)) ∷ spans_from (at + length (b ∷ bs) + 1) ps

-- where each word of a line begins, and where it has ended, in a text in which the line begins at this place
abbrev pub spans_at : ℕ → List ℕ → List (ℕ × ℕ)
spans_at start line = spans_from start (slice_split is_blank (before_first is_hash line))

-- the line stands in the text from this place on
abbrev pub IsPart : List ℕ → ℕ → List ℕ → Type 0
IsPart whole start line = slice_range whole start (start + length line) ≡ line

-- the words are the slices of the text at their spans
abbrev pub AreSlices : List ℕ → ℕ → List ℕ → Type 0
AreSlices whole start line = words line ≡ map (λ s. slice_range whole s.0 s.1) (spans_at start line)

-- each span has a byte and is within the text, and there is a byte between it and each later one
pub record Rise (whole : List ℕ) (start : ℕ) (line : List ℕ) : Type 0 where
  pub within : (i : ℕ) (s : ℕ × ℕ) → slice_get (spans_at start line) i ≡ Some s → (s.0 < s.1) × (s.1 ≤ length whole)
  pub apart : (i j : ℕ) (s r : ℕ × ℕ) → slice_get (spans_at start line) i ≡ Some s → slice_get (spans_at start line) j ≡ Some r → i < j
      → s.1 < r.0
