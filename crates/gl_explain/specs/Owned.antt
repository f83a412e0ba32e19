-- The monitors that a thread owns.
use Rattle.std.specs.Prelude.{◌≡◌, ℕ, ◌<◌, ◌≤◌, true, List, map, Contains, None, slice_index_or, IfSome, ◌↔◌}
use Rattle.gl_model.specs.declared.limits.TheConstants.{MONITORS}
use Rattle.gl_model.specs.Rising.{Rises}
use Rattle.gl_model.specs.TraceSteps.{Step, Hold, holder, is_held_by}
use Rattle.gl_explain.specs.declared.told.Told.{Told}
use Rattle.gl_explain.specs.Told.{step_of}

-- these are the monitors that thread t owns behind the lines, rising
pub record AreOwned (before : List Told) (t : ℕ) (monitors : List ℕ) : Type 0 where
  pub rises : Rises monitors
  pub each : (m : ℕ) → Contains monitors m ↔ (is_held_by t (holder m (map step_of before)) ≡ true)

-- the table has the owner of each monitor behind these steps
abbrev pub AreHolders : List Step → List Hold → Type 0
AreHolders steps holders = (m : ℕ) → m < MONITORS → slice_index_or holders m None ≡ holder m steps

-- each depth is from 1 to most
abbrev pub IsWithin : ℕ → List Hold → Type 0
IsWithin most holders = (m : ℕ) → m < MONITORS → IfSome (slice_index_or holders m None) (λ h. (0 < h.1) × (h.1 ≤ most))
