-- What each command answers for the input. A load reads nothing, and answers the same for any.
use Rattle.std.specs.Prelude.{◌≡◌, ℕ, ◌<◌, List, Option, Some, length}
use Rattle.gl_run.specs.declared.words.Command.{Command}
use Rattle.gl_run.specs.declared.words.Command.TheVariants as commands
use Rattle.gl_run.specs.declared.keep.Keep.{Keep}
use Rattle.gl_run.specs.declared.kept.Kept.{Kept}
use Rattle.gl_run.specs.Words.{most_of}
use Rattle.gl_run.specs.Audits.{AuditsText}
use Rattle.gl_run.specs.Check.{ChecksText}
use Rattle.gl_run.specs.Listed.{ListsText}
use Rattle.gl_run.specs.Loads.{AnswersLoad}
use Rattle.gl_run.specs.Runs.{RunsText}

abbrev pub AnswersText : Keep → Command → List ℕ → ℕ → List ℕ → Option Kept → Type 0
AnswersText keep commands.Check input status bytes kept = ChecksText keep input status bytes kept
AnswersText keep commands.List input status bytes kept = ListsText input status bytes kept
AnswersText keep (commands.Run options) input status bytes kept = RunsText options input status bytes kept
AnswersText keep (commands.Load load) input status bytes kept = AnswersLoad load status bytes kept
AnswersText keep commands.Audit input status bytes kept = AuditsText input status bytes kept

-- what every text of more bytes than the command reads is answered
abbrev pub AnswersLonger : Command → ℕ → List ℕ → Option Kept → Type 0
AnswersLonger command status bytes kept =
    (keep : Keep) (input : List ℕ) (most : ℕ) → most_of (Some command) ≡ Some most → most < length input
    → AnswersText keep command input status bytes kept
