-- What `list` answers.
use Rattle.std.specs.Prelude.{◌≡◌, ◌⊎◌, ℕ, ℤ, List, [], Option, None}
use Rattle.gl_asm.specs.Listing.{listing}
use Rattle.gl_asm.specs.Texts.{IsText, IsFirstFault}
use Rattle.gl_bytecode.specs.Programs.{Bytecode}
use Rattle.gl_run.specs.Output.{refusal}
use Rattle.gl_run.specs.declared.kept.Kept.{Kept}
use Rattle.gl_run.specs.declared.status.TheConstants.{ALL_WELL, REFUSED}

-- the status and the bytes for a text that is a program: its canonical listing, which is a text of the same program without inputs
pub record AcceptsProgram (input : List ℕ) (status : ℕ) (bytes : List ℕ) (kept : Option Kept) : Type 0 where
  pub program : Bytecode
  pub inputs : List ℤ
  pub meaning : IsText input program inputs
  pub status_is : status ≡ ALL_WELL
  pub bytes_are : bytes ≡ listing program
  pub again : IsText bytes program []
  pub kept_is : kept ≡ None

-- the status and the bytes for a text that is refused for this fault
pub record Refuses (IsFault : ℕ → ℕ → Type 0) (status : ℕ) (bytes : List ℕ) (kept : Option Kept) : Type 0 where
  pub line : ℕ
  pub kind : ℕ
  pub fault : IsFault line kind
  pub status_is : status ≡ REFUSED
  pub bytes_are : bytes ≡ refusal line kind
  pub kept_is : kept ≡ None

-- the status and the bytes for a text that is none
abbrev pub RefusesProgram : List ℕ → ℕ → List ℕ → Option Kept → Type 0
RefusesProgram input status bytes kept = Refuses (IsFirstFault input) status bytes kept

-- what a text is answered
abbrev pub ListsText : List ℕ → ℕ → List ℕ → Option Kept → Type 0
ListsText input status bytes kept = AcceptsProgram input status bytes kept ⊎ RefusesProgram input status bytes kept
