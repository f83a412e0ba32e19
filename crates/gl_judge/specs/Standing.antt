-- A row that stands for what was done with its variable, before a next access of it.
use Rattle.std.specs.Prelude.{◌≡◌, ℕ, Bool, true, false, List, Option, Some, None, Contains, ◌↔◌}
use Rattle.gl_model.specs.declared.event.Stamp.{Stamp}
use Rattle.gl_model.specs.declared.row.Info.{Info}
use Rattle.gl_model.specs.declared.row.Row.{Row}
use Rattle.gl_model.specs.declared.row.Question.{Question}
use Rattle.gl_model.specs.Entries.{Entry}
use Rattle.gl_model.specs.Infos.{InfoFor}
use Rattle.gl_model.specs.Locksets.{Access}
use Rattle.gl_model.specs.Machine.{Setting, State, Allows, Running}
use Rattle.gl_model.specs.Records.{IsPlain, Writes}
use Rattle.gl_draws.specs.Draws.{Draw}
use Rattle.gl_draws.specs.Verdicts.{DrawsHold}
use Rattle.gl_draws.specs.RowFacts.{RowStands, read_of}

-- the Info stands for some access of the list h, which writes or not, where there is an Info
abbrev pub KeptStands : Setting → List Stamp → Option Info → Bool → Type 0
KeptStands setting h kept write = (i : Info) → kept ≡ Some i → (a : Access) × InfoFor setting h i a write

-- each Info of the row stands for some access of the list h
pub record InfosStand (setting : Setting) (h : List Stamp) (row : Row) : Type 0 where
  pub last_write : KeptStands setting h row.last_write true
  pub reads : (t : ℕ) → KeptStands setting h (read_of row.reads t) false

-- thread t runs behind the list h, the draws of x so far hold, and the row stands for them
pub record StandsFor (setting : Setting) (h : List Stamp) (x : ℕ) (ds : List Draw) (row : Row) (t : ℕ) : Type 0 where
  pub now : State
  pub allowed : Allows setting h now
  pub running : now.threads t ≡ Running
  pub holds : DrawsHold h x ds
  pub stands : RowStands setting h x ds row

-- the entry is a plain access, or touches x where it is a commit on these variables
abbrev pub IsAccessOn : ℕ → Option (List ℕ) → Entry → Type 0
IsAccessOn x None f = IsPlain f
IsAccessOn x (Some xs) f = Contains xs x

-- the question is of this access, as far as it speaks of x
pub record AsksFor (q : Question) (f : Entry) (x : ℕ) : Type 0 where
  pub kind : IsAccessOn x q.commit f
  pub writes : (q.write ≡ true) ↔ Writes f x
