-- What is read, answered and written.
use Rattle.std.specs.Prelude.{◌≡◌, ◌⊎◌, ℕ, ◌<◌, ◌≤◌, List, length, take, Option, Result, Ok, Err}
use Rattle.std.specs.Io.KnownBytes.{Appends}
use Rattle.gl_explain.specs.Answers.{refusal}
use Rattle.gl_explain.specs.declared.page.Page.{Page}
use Rattle.gl_io.specs.Faults.{Rose}
use Rattle.gl_io.specs.Whole.{IsTaken}
use Rattle.gl_text.specs.declared.kinds.TheConstants.{TOO_LONG}
use Rattle.goldi_explain.specs.Answers.{IsAnswered, most_of}
use Rattle.goldi_explain.specs.declared.serving.Stop.{Stop}
use Rattle.goldi_explain.specs.declared.serving.Stop.TheVariants.{Read, Memory}
use Rattle.goldi_explain.specs.declared.serving.TheConstants.{READ_FAILED, WRITE_FAILED, NO_MEMORY}
use Rattle.goldi_explain.specs.declared.words.Form.{Form}

-- the page of an input: one that is too long is refused in line 0
abbrev pub Pages : Form → List ℕ → ℕ → List ℕ → Type 0
Pages form input status bytes =
    ((length input ≤ most_of form) × IsAnswered form input status bytes)
    ⊎ ((most_of form < length input) × (status ≡ 4) × (bytes ≡ refusal 0 TOO_LONG))

-- the page of an input that is all that the source had left, where it tells that
pub record IsPageOf (form : Form) (left : Option (List ℕ)) (status : ℕ) (bytes : List ℕ) : Type 0 where
  pub input : List ℕ
  pub all : IsTaken left input
  pub pages : Pages form input status bytes

-- there is no page where a read failed, or memory ran out
abbrev pub Stops : ℕ → ℕ → Result Page Stop → Type 0
Stops before now (Ok p) = now ≡ before
Stops before now (Err Read) = Rose before now
Stops before now (Err Memory) = now ≡ before

-- no read and no write failed, and all of the page was written
pub record ServesAll (form : Form) (left : Option (List ℕ)) (reads_before reads_now status writes_before writes_now : ℕ)
    (before now : Option (List ℕ)) : Type 0 where
  pub bytes : List ℕ
  pub page : IsPageOf form left status bytes
  pub reads : reads_now ≡ reads_before
  pub writes : writes_now ≡ writes_before
  pub all : Appends before now bytes

-- a write failed, and a beginning of the page was written
pub record ServesPart (form : Form) (left : Option (List ℕ)) (reads_before reads_now status writes_before writes_now : ℕ)
    (before now : Option (List ℕ)) : Type 0 where
  pub status_is : status ≡ WRITE_FAILED
  pub meant : ℕ
  pub bytes : List ℕ
  pub page : IsPageOf form left meant bytes
  pub reads : reads_now ≡ reads_before
  pub writes : Rose writes_before writes_now
  pub part : (n : ℕ) × Appends before now (take n bytes)

-- a read failed, or memory ran out, and nothing was written
pub record ServesNothing (reads_before reads_now status writes_before writes_now : ℕ) (before now : Option (List ℕ)) : Type 0 where
  pub cause : ((status ≡ READ_FAILED) × Rose reads_before reads_now) ⊎ ((status ≡ NO_MEMORY) × (reads_now ≡ reads_before))
  pub writes : writes_now ≡ writes_before
  pub same : now ≡ before

-- what is written for what the source had left, and the status
abbrev pub Serves : Form → Option (List ℕ) → ℕ → ℕ → ℕ → ℕ → ℕ → Option (List ℕ) → Option (List ℕ) → Type 0
Serves form left reads_before reads_now status writes_before writes_now before now =
    ServesAll form left reads_before reads_now status writes_before writes_now before now
    ⊎ (ServesPart form left reads_before reads_now status writes_before writes_now before now
    ⊎ ServesNothing reads_before reads_now status writes_before writes_now before now)
