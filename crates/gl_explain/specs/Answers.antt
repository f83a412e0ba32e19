-- What a text is answered.
use Rattle.std.specs.Prelude.{◌≡◌, ◌⊎◌, ◌==◌, ℕ, if◌then◌else◌, List, ◌++◌, codes, count_by}
use Rattle.std.specs.Fmt.{decimal}
use Rattle.std.specs.List.{flat_map}
use Rattle.gl_model.specs.Trace.{AreVerdicts}
use Rattle.gl_names.specs.Names.{Naming, name_of}
use Rattle.gl_trace.specs.Trace.{IsTrace, IsFirstFault}
use Rattle.gl_trace.specs.Verdicts.{is_race}
use Rattle.gl_explain.specs.declared.told.Told.{Told}
use Rattle.gl_explain.specs.declared.told.Explanation.{Explanation}
use Rattle.gl_explain.specs.Explained.{AreExplained}
use Rattle.gl_explain.specs.Texts.{explanation_text, ending_text}
use Rattle.gl_explain.specs.Told.{lines_of, trace_of}

-- how many races there are
abbrev pub races_in : List Told → ℕ
races_in told = count_by (λ k. is_race k.judged) told

-- the status and the bytes for the lines of a trace, with what the race law says of each: an explanation of each race, in order,
-- with these names, and the ending
pub record ExplainsLines (names : Naming) (told : List Told) (status : ℕ) (bytes : List ℕ) : Type 0 where
  pub right : AreVerdicts (lines_of told)
  pub explained : List Explanation
  pub are : AreExplained told explained
  pub status_is : status ≡ (if races_in told == 0 then 0 else 6)
  pub bytes_are : bytes ≡ flat_map (explanation_text names) explained ++ ending_text (races_in told)

-- the status and the bytes for a text that is a trace; the names are those that the text itself gives
pub record ExplainsTrace (input : List ℕ) (status : ℕ) (bytes : List ℕ) : Type 0 where
  pub told : List Told
  pub meaning : IsTrace input (trace_of told)
  pub answer : ExplainsLines (name_of input) told status bytes

abbrev pub refusal : ℕ → ℕ → List ℕ
refusal line kind = codes "refused " ++ (decimal line ++ (codes " " ++ (decimal kind ++ codes "\n")))

-- the status and the bytes for a text that is none: its first fault
pub record RefusesTrace (input : List ℕ) (status : ℕ) (bytes : List ℕ) : Type 0 where
  pub line : ℕ
  pub kind : ℕ
  pub fault : IsFirstFault input line kind
  pub status_is : status ≡ 4
  pub bytes_are : bytes ≡ refusal line kind

-- what a text is answered
abbrev pub ExplainsText : List ℕ → ℕ → List ℕ → Type 0
ExplainsText input status bytes = ExplainsTrace input status bytes ⊎ RefusesTrace input status bytes
