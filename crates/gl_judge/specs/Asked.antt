-- What is asked about over a row: its Infos' windows, and the next access.
use Rattle.std.specs.Prelude.{◌≡◌, ℕ, ◌+◌, ◌≤◌, List, length, drop, Option, Some}
use Rattle.gl_model.specs.declared.event.Stamp.{Stamp}
use Rattle.gl_model.specs.declared.row.Info.{Info}
use Rattle.gl_model.specs.declared.row.Row.{Row}
use Rattle.gl_model.specs.declared.row.Question.{Question}
use Rattle.gl_model.specs.Machine.{Setting}
use Rattle.gl_draws.specs.RowFacts.{read_of}
use Rattle.gl_shortcut.specs.Ordering.{IsOfNext}

-- the Info's position is in the window, which begins at from, or at its end
abbrev pub IsFrom : ℕ → List Stamp → Info → Type 0
IsFrom from window i = (from ≤ i.pos) × (i.pos ≤ from + length window)

abbrev pub IsAbsentOrFrom : ℕ → List Stamp → Option Info → Type 0
IsAbsentOrFrom from window o = (i : Info) → o ≡ Some i → IsFrom from window i

-- the positions of a row's Infos are in the window
pub record IsRowFrom (from : ℕ) (window : List Stamp) (row : Row) : Type 0 where
  pub last_write : IsAbsentOrFrom from window row.last_write
  pub reads : (t : ℕ) → IsAbsentOrFrom from window (read_of row.reads t)

-- the window is that of the list h from this position on, and the question is of a next access after h
abbrev pub IsAskedOver : Setting → List Stamp → ℕ → List Stamp → Question → Type 0
IsAskedOver setting h from window q = (drop from h ≡ window) × IsOfNext setting h q
