-- What a command, or words that are none, and the input are answered, and the causes of each status. What is asked for is the command that
-- the words name, where they name one of those that the call serves.
use Rattle.std.specs.Prelude.{◌≡◌, ◌≤◌, ◌⊎◌, ℕ, List, [], length, Option, Some, None, take}
use Rattle.std.specs.Io.KnownBytes.{Appends, Consumes, IsAtEnd}
use Rattle.gl_io.specs.Faults.{Rose}
use Rattle.gl_io.specs.Whole.{IsTaken}
use Rattle.gl_run.specs.declared.words.Command.{Command}
use Rattle.gl_run.specs.declared.status.TheConstants.{ALL_WELL, NO_COMMAND, READ_FAILED, WRITE_FAILED, REFUSED}
use Rattle.gl_run.specs.declared.status.TheConstants.{NO_MEMORY, RACES, NOT_HALTED, NOT_LAWFUL}
use Rattle.gl_run.specs.declared.keep.Keep.{Keep}
use Rattle.gl_run.specs.declared.kept.Kept.{Kept}
use Rattle.gl_run.specs.Texts.{AnswersText}
use Rattle.gl_run.specs.Output.{usage}
use Rattle.gl_run.specs.Words.{most_of}

-- words that are no command get the usage line
pub record AnswersUsage (asked : Option Command) (status : ℕ) (bytes : List ℕ) (kept : Option Kept) : Type 0 where
  pub nothing : asked ≡ None
  pub status_is : status ≡ NO_COMMAND
  pub bytes_are : bytes ≡ usage
  pub kept_is : kept ≡ None

-- words that are a command get what it answers for the input
pub record AnswersCommand (keep : Keep) (asked : Option Command) (input : List ℕ) (status : ℕ) (bytes : List ℕ) (kept : Option Kept) : Type
    0 where
  pub command : Command
  pub is : asked ≡ Some command
  pub answer : AnswersText keep command input status bytes kept

-- what is to be written for these words and this input, and the status and what is kept then
abbrev pub Replies : Keep → Option Command → List ℕ → ℕ → List ℕ → Option Kept → Type 0
Replies keep asked input status bytes kept = AnswersUsage asked status bytes kept ⊎ AnswersCommand keep asked input status bytes kept

-- the words are no command
abbrev pub IsNoCommand : Option Command → Type 0
IsNoCommand asked = asked ≡ None

-- nothing is read for these words: they are no command, or one that reads nothing
abbrev pub ReadsNothing : Option Command → Type 0
ReadsNothing asked = most_of asked ≡ None

-- the causes of a status, at each command: that of no command for such words, and those of a read and of a write that failed where the
-- counts of the source and the sink rose and never else; that of a read only for words for which something is read
pub record HasCauses (asked : Option Command) (source_before source_now sink_before sink_now : ℕ) (status : ℕ) : Type 0 where
  pub usage : status ≡ NO_COMMAND → IsNoCommand asked
  pub no_usage : IsNoCommand asked → (status ≡ NO_COMMAND) ⊎ ((status ≡ WRITE_FAILED) ⊎ (status ≡ NO_MEMORY))
  pub unread : ReadsNothing asked → source_now ≡ source_before
  pub read : status ≡ READ_FAILED → (ReadsNothing asked → ⊥) × Rose source_before source_now
  pub no_read : (status ≡ READ_FAILED → ⊥) → source_now ≡ source_before
  pub write : status ≡ WRITE_FAILED → Rose sink_before sink_now
  pub no_write : (status ≡ WRITE_FAILED → ⊥) → sink_now ≡ sink_before

-- the statuses in which all that was to be written was written
abbrev pub IsWhole : ℕ → Type 0
IsWhole status =
    (status ≡ ALL_WELL) ⊎ ((status ≡ NO_COMMAND)
    ⊎ ((status ≡ REFUSED) ⊎ ((status ≡ RACES) ⊎ ((status ≡ NOT_HALTED) ⊎ (status ≡ NOT_LAWFUL)))))

-- what was written and what is kept, for an input
pub record HasWritten (keep : Keep) (asked : Option Command) (input : List ℕ) (status : ℕ) (kept : Option Kept)
    (before now : Option (List ℕ)) : Type 0 where
  pub whole : IsWhole status → (bytes : List ℕ) × Replies keep asked input status bytes kept × Appends before now bytes
  pub part : status ≡ WRITE_FAILED → (meant : ℕ) × (n : ℕ) × (bytes : List ℕ) × Replies keep asked input meant bytes kept
      × Appends before now (take n bytes)
  pub nothing : (status ≡ READ_FAILED) ⊎ (status ≡ NO_MEMORY) → Appends before now [] × (kept ≡ None)
  pub other : IsWhole status ⊎ ((status ≡ READ_FAILED) ⊎ ((status ≡ WRITE_FAILED) ⊎ (status ≡ NO_MEMORY)))

-- the same for some input, which is all that the source had left, where it tells that
pub record Serves (keep : Keep) (asked : Option Command) (left : Option (List ℕ)) (status : ℕ) (kept : Option Kept)
    (before now : Option (List ℕ)) : Type 0 where
  pub input : List ℕ
  pub all : IsTaken left input
  pub written : HasWritten keep asked input status kept before now

-- these bytes were read, and where they are no more than may be read they are all
pub record HasRead (most : ℕ) (before now : Option (List ℕ)) : Type 0 where
  pub bytes : List ℕ
  pub taken : Consumes before now bytes
  pub end : length bytes ≤ most → IsAtEnd now

-- the statuses of a command that read its input without a fault and had memory for its answer
abbrev pub IsAnswered : ℕ → Type 0
IsAnswered status =
    (status ≡ ALL_WELL) ⊎ ((status ≡ WRITE_FAILED)
    ⊎ ((status ≡ REFUSED) ⊎ ((status ≡ RACES) ⊎ ((status ≡ NOT_HALTED) ⊎ (status ≡ NOT_LAWFUL)))))

-- those of one whose text, if it reads one, is accepted
abbrev pub IsAccepted : ℕ → Type 0
IsAccepted status = (status ≡ ALL_WELL) ⊎ ((status ≡ RACES) ⊎ ((status ≡ NOT_HALTED) ⊎ (status ≡ NOT_LAWFUL)))

-- what a source has left: all where nothing is read for the words; nothing where an input was accepted; and else what was not read of a
-- text that is too long
pub record HasLeft (asked : Option Command) (before now : Option (List ℕ)) (status : ℕ) : Type 0 where
  pub unread : ReadsNothing asked → now ≡ before
  pub accepted : (most : ℕ) → most_of asked ≡ Some most → IsAccepted status → IsAtEnd now
  pub read : (most : ℕ) → most_of asked ≡ Some most → IsAnswered status → HasRead most before now
