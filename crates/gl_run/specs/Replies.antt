-- What comes between reading and writing.
use Rattle.std.specs.Prelude.{◌≡◌, ◌⊎◌, ℕ, List, Option, Result, Ok, Err}
use Rattle.gl_io.specs.Faults.{Rose}
use Rattle.gl_io.specs.Whole.{IsTaken}
use Rattle.gl_run.specs.Command.{IsNoCommand, ReadsNothing, Replies}
use Rattle.gl_run.specs.declared.keep.Keep.{Keep}
use Rattle.gl_run.specs.declared.status.TheConstants.{ALL_WELL, NO_COMMAND, REFUSED, RACES, NOT_HALTED, NOT_LAWFUL}
use Rattle.gl_run.specs.declared.words.Command.{Command}
use Rattle.gl_run.specs.declared.page.Page.{Page}
use Rattle.gl_run.specs.declared.page.Stop.{Stop}
use Rattle.gl_run.specs.declared.page.Stop.TheVariants.{Read, Memory}

-- the statuses of a command that is answered
abbrev pub IsVerdict : ℕ → Type 0
IsVerdict status = (status ≡ ALL_WELL) ⊎ ((status ≡ REFUSED) ⊎ ((status ≡ RACES) ⊎ ((status ≡ NOT_HALTED) ⊎ (status ≡ NOT_LAWFUL))))

abbrev pub IsPageStatus : Option Command → ℕ → Type 0
IsPageStatus asked status = (IsNoCommand asked × (status ≡ NO_COMMAND)) ⊎ ((IsNoCommand asked → ⊥) × IsVerdict status)

abbrev pub ReplyCause : Option Command → ℕ → ℕ → Result Page Stop → Type 0
ReplyCause asked before now (Ok p) = (now ≡ before) × IsPageStatus asked p.status
ReplyCause asked before now (Err Read) = (ReadsNothing asked → ⊥) × Rose before now
ReplyCause asked before now (Err Memory) = now ≡ before

-- it is the page for some input, which is all that the source had left, where it tells that
pub record RepliesTo (keep : Keep) (asked : Option Command) (left : Option (List ℕ)) (p : Page) : Type 0 where
  pub input : List ℕ
  pub all : IsTaken left input
  pub reply : Replies keep asked input p.status p.text.items p.kept
