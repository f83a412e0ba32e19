-- The clocks that the tables have, against a list of events.
use Rattle.std.specs.Prelude.{◌≡◌, ◌≤◌, ℕ, List, length, vec_capacity}
use Rattle.gl_model.specs.declared.event.Element.{Element}
use Rattle.gl_model.specs.declared.event.Element.TheVariants.{Thread, Tx, Monitor, Volatile, Var}
use Rattle.gl_model.specs.declared.event.Stamp.{Stamp}
use Rattle.gl_model.specs.declared.limits.TheConstants.{MONITORS, VOLATILES, VARIABLES}
use Rattle.gl_clocks.specs.Clocks.{Clocks, clocks}
use Rattle.gl_core.specs.declared.tables.Tables.{Tables}
use Rattle.gl_core.specs.Cells.{cell}

abbrev pub clocks_in : Tables → Clocks
clocks_in s (Thread t) u = cell s.threads t u
clocks_in s Tx u = 0
clocks_in s (Monitor o) u = cell s.monitors.items o u
clocks_in s (Volatile v) u = cell s.volatiles.items v u
clocks_in s (Var x) u = cell s.variables.items x u

-- there is room for the clock of each that there is
pub record IsSized (s : Tables) : Type 0 where
  pub monitors : MONITORS ≤ vec_capacity s.monitors
  pub volatiles : VOLATILES ≤ vec_capacity s.volatiles
  pub variables : VARIABLES ≤ vec_capacity s.variables

-- these are the clocks after the events h
pub record AreClocksOf (h : List Stamp) (s : Tables) : Type 0 where
  pub next : s.next ≡ length h
  pub clocks : (y : Element) (u : ℕ) → clocks_in s y u ≡ clocks h y u
