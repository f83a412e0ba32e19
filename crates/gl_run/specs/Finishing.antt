-- What comes behind the writing.
use Rattle.std.specs.Prelude.{◌≡◌, ◌⊎◌, ℕ, List, Option, None, Result, Ok, Err, take}
use Rattle.std.specs.Io.KnownBytes.{Appends}
use Rattle.gl_io.specs.Faults.{Rose}
use Rattle.gl_run.specs.declared.page.Page.{Page}
use Rattle.gl_run.specs.declared.page.Stop.{Stop}
use Rattle.gl_run.specs.declared.page.Stop.TheVariants.{Read, Memory}
use Rattle.gl_run.specs.declared.status.TheConstants.{READ_FAILED, WRITE_FAILED, NO_MEMORY}
use Rattle.gl_run.specs.declared.top.Answer.{Answer}

-- no write failed, and all of the page was written
pub record IsWritten (p : Page) (a : Answer) (faults_before faults_now : ℕ) (before now : Option (List ℕ)) : Type 0 where
  pub status_is : a.status ≡ p.status
  pub faults : faults_now ≡ faults_before
  pub all : Appends before now p.text.items

-- a write failed, and a beginning of the page was written
pub record IsCut (p : Page) (a : Answer) (faults_before faults_now : ℕ) (before now : Option (List ℕ)) : Type 0 where
  pub status_is : a.status ≡ WRITE_FAILED
  pub faults : Rose faults_before faults_now
  pub part : (n : ℕ) × Appends before now (take n p.text.items)

-- nothing was written, and nothing is kept
pub record IsNothing (status : ℕ) (a : Answer) (faults_before faults_now : ℕ) (before now : Option (List ℕ)) : Type 0 where
  pub status_is : a.status ≡ status
  pub kept_is : a.kept ≡ None
  pub faults : faults_now ≡ faults_before
  pub same : now ≡ before

-- what is answered for what is to be written, and what becomes of the sink
abbrev pub Finishes : Result Page Stop → Answer → ℕ → ℕ → Option (List ℕ) → Option (List ℕ) → Type 0
Finishes (Ok p) a faults_before faults_now before now =
    (a.kept ≡ p.kept) × (IsWritten p a faults_before faults_now before now ⊎ IsCut p a faults_before faults_now before now)
Finishes (Err Read) a faults_before faults_now before now = IsNothing READ_FAILED a faults_before faults_now before now
Finishes (Err Memory) a faults_before faults_now before now = IsNothing NO_MEMORY a faults_before faults_now before now
