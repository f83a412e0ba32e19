-- The rights of a thread: what is kept of them, and what is true of it.
use Rattle.std.specs.Prelude.{◌≡◌, ℕ, Bool, ◌==◌, ◌≤◌, if◌then◌else◌, length, map, Option, Some, None}
use Rattle.std.specs.List.{All}
use Rattle.gl_model.specs.declared.limits.TheConstants.{VARIABLES}
use Rattle.gl_table.specs.declared.rights.Right.{Right}
use Rattle.gl_table.specs.declared.rights.Rights.TheInside.{Inside}
use Rattle.gl_table.specs.RightsView.{RightsView}

-- the right is there where its block is this one
abbrev pub right_in : ℕ → Right → Option (ℕ × Bool)
right_in block r = if r.block == block then Some (r.nth, r.write) else None

abbrev pub rights_view : Inside → RightsView
rights_view r = record { rights = map (right_in r.block) r.places.items; block = r.block }

pub record AreRights (r : Inside) : Type 0 where
  pub long : length r.places.items ≡ VARIABLES
  pub begun : All (λ (p : Right). p.block ≤ r.block) r.places.items
