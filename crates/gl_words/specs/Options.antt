-- The options of the commands that run a program, by the words that give them.
use Rattle.std.specs.Prelude.{◌≡◌, ◌≤◌, ◌+◌, ◌==◌, ◌&&◌, ℕ, Bool, true, false, List, [], ◌∷◌, Option, Some, None, bytes_eq, codes, length, take, drop, nat_lt, nat_le, option_and_then, if◌then◌else◌}
use Rattle.std.specs.List.{position}
use Rattle.gl_gen.specs.declared.accounts.TheConstants.{MOST_TRANSFERS}
use Rattle.gl_segments.specs.declared.TheConstants.{LEAST_CELLS, LEAST_SEGMENTS, MOST_CELLS, MOST_SEGMENTS}
use Rattle.gl_text.specs.Number.{magnitude_of}
use Rattle.gl_words.specs.declared.options.Given.{Given}
use Rattle.gl_words.specs.declared.options.Limits.{Limits}
use Rattle.gl_words.specs.declared.options.NumberOption.{NumberOption}
use Rattle.gl_words.specs.declared.options.NumberOption.TheVariants.{Workers, Steps, Segments, Cells, Size}
use Rattle.gl_words.specs.declared.options.TheConstants.{MOST_DIGITS, MOST_STEPS, MOST_WORKERS}

abbrev pub Word : Type 0
Word = List ℕ

-- ## The table: a row in each definition for each option

abbrev pub option_named : Word → Option NumberOption
option_named name =
    if bytes_eq name (codes "workers") then Some Workers
    else if bytes_eq name (codes "steps") then Some Steps
    else if bytes_eq name (codes "segments") then Some Segments
    else if bytes_eq name (codes "cells") then Some Cells
    else if bytes_eq name (codes "size") then Some Size
    else None

-- which numbers it takes
abbrev pub limits_of : NumberOption → Limits
limits_of Workers = record { least = 1; most = MOST_WORKERS }
limits_of Steps = record { least = 1; most = MOST_STEPS }
limits_of Segments = record { least = LEAST_SEGMENTS; most = MOST_SEGMENTS }
limits_of Cells = record { least = LEAST_CELLS; most = MOST_CELLS }
limits_of Size = record { least = 1; most = MOST_TRANSFERS }

abbrev pub given_for : NumberOption → Given → Option ℕ
given_for Workers g = g.workers
given_for Steps g = g.steps
given_for Segments g = g.segments
given_for Cells g = g.cells
given_for Size g = g.size

abbrev pub with_number : NumberOption → ℕ → Given → Given
with_number Workers n g = record g { workers = Some n }
with_number Steps n g = record g { steps = Some n }
with_number Segments n g = record g { segments = Some n }
with_number Cells n g = record g { cells = Some n }
with_number Size n g = record g { size = Some n }

abbrev pub nothing_given : Given
nothing_given = record { workers = None; steps = None; segments = None; cells = None; size = None; journal = false }

-- ## Numbers

abbrev pub IsWithin : NumberOption → ℕ → Type 0
IsWithin o n = ((limits_of o).least ≤ n) × (n ≤ (limits_of o).most)

-- each number that is given is within its limits
abbrev pub AreWithin : Given → Type 0
AreWithin g = (o : NumberOption) (n : ℕ) → given_for o g ≡ Some n → IsWithin o n

-- the number, if the option takes it
abbrev pub within : NumberOption → Option ℕ → Option ℕ
within o None = None
within o (Some n) = if nat_le (limits_of o).least n && nat_le n (limits_of o).most then Some n else None

-- 1 to 7 digits
abbrev pub number_of : NumberOption → Word → Option ℕ
number_of o word = if nat_lt MOST_DIGITS (length word) then None else within o (magnitude_of word)

-- ## Words

-- a number for an option, where none is given for it yet
abbrev pub give : NumberOption → ℕ → Given → Option Given
give o n g = elim (given_for o g) [ None ↦ Some (with_number o n g) | Some m ↦ None ]

-- the number that a word says, for the option of this name
abbrev pub give_named : Given → Word → Word → Option Given
give_named g name word = option_and_then (λ o. option_and_then (λ n. give o n g) (number_of o word)) (option_named name)

-- the option without a number
abbrev pub is_journal : Word → Bool
is_journal name = bytes_eq name (codes "journal")

abbrev pub give_journal : Given → Option Given
give_journal g = if g.journal then None else Some (record g { journal = true })

-- what a name says with no number
abbrev pub give_alone : Given → Word → Option Given
give_alone g name = if is_journal name then give_journal g else None

abbrev pub is_equals : ℕ → Bool
is_equals byte = byte == 61

-- the name, and what stands behind the first `=`, if there is one
abbrev pub name_and_number : Word → Word × Option Word
name_and_number text = elim (position is_equals text) [ None ↦ (text, None) | Some at ↦ (take at text, Some (drop (at + 1) text)) ]

-- those of `--NAME` and `--NAME=NUMBER`
abbrev pub named : Word → Option (Word × Option Word)
named word = if bytes_eq (take 2 word) (codes "--") then Some (name_and_number (drop 2 word)) else None

-- what the words give behind what is given: `--NAME=NUMBER` in one word or `--NAME NUMBER` in two, or the name alone of the option
-- without a number; each option at most once, in any order
abbrev pub read_options : Given → List Word → Option Given
read_options g [] = Some g
read_options g (word ∷ []) = option_and_then (λ p. elim p.1 [ Some number ↦ give_named g p.0 number | None ↦ give_alone g p.0 ])
    (named word)
read_options g (word ∷ next ∷ rest) = option_and_then (λ p. elim p.1 [
  | Some number ↦ option_and_then (λ more. read_options more (next ∷ rest)) (give_named g p.0 number)
  | None ↦
      if is_journal p.0 then option_and_then (λ more. read_options more (next ∷ rest)) (give_journal g)
      else option_and_then (λ more. read_options more rest) (give_named g p.0 next)
]) (named word)
