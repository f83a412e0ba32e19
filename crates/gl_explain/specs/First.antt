-- The first race of a trace.
use Rattle.std.specs.Prelude.{◌≡◌, ℕ, ◌<◌, false, List, take, slice_get, Option, Some, None}
use Rattle.gl_model.specs.Trace.{AreVerdicts}
use Rattle.gl_trace.specs.Trace.{IsTrace, IsFirstFault, AreLines}
use Rattle.gl_trace.specs.Verdicts.{is_race}
use Rattle.gl_explain.specs.declared.told.Told.{Told}
use Rattle.gl_explain.specs.declared.told.First.{First}
use Rattle.gl_explain.specs.declared.told.Sought.{Sought}
use Rattle.gl_explain.specs.declared.told.Sought.TheVariants.{Refused, Judged}
use Rattle.gl_explain.specs.Explained.{IsExplained}
use Rattle.gl_explain.specs.Told.{lines_of, trace_of, told_of}

-- none of the first n lines is a race
abbrev pub AreQuiet : List Told → ℕ → Type 0
AreQuiet told n = (i : ℕ) (k : Told) → i < n → slice_get told i ≡ Some k → is_race k.judged ≡ false

-- where the first of these lines that is a race stands, and why it is one
pub record IsFirstRace (told : List Told) (f : First) : Type 0 where
  pub there : slice_get told f.race ≡ Some f.explanation.at
  pub quiet : AreQuiet told f.race
  pub explained : IsExplained (take f.race told) f.explanation

-- the first race of these lines, if one is a race
abbrev pub IsFirstIn : List Told → Option First → Type 0
IsFirstIn told None = (i : ℕ) (k : Told) → slice_get told i ≡ Some k → is_race k.judged ≡ false
IsFirstIn told (Some f) = IsFirstRace told f

-- the lines of a text that is a trace, with what the race law says of each, and the first race among them
pub record AreSought (input : List ℕ) (told : List Told) (first : Option First) : Type 0 where
  pub meaning : IsTrace input (trace_of told)
  -- so no line has a fault behind those before it
  pub clean : AreLines (trace_of told)
  pub right : AreVerdicts (lines_of told)
  pub first_is : IsFirstIn told first

-- what is found in a text: its lines and its first race, or its first fault
abbrev pub IsSought : List ℕ → Sought → Type 0
IsSought input (Refused line kind) = IsFirstFault input line kind
IsSought input (Judged kept first) = AreSought input (told_of kept.items) first
