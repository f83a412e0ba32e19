-- What the reader's tables say of the steps so far.
use Rattle.std.specs.Prelude.{◌≡◌, ℕ, ◌<◌, ◌≤◌, List, false, None, slice_index_or, IfSome}
use Rattle.std.specs.List.{list_any}
use Rattle.gl_model.specs.declared.limits.TheConstants.{THREADS, MONITORS}
use Rattle.gl_model.specs.TraceSteps.{Step, item_forks, is_ended, holder}
use Rattle.gl_trace.specs.declared.standing.Standing.{Standing}

pub record Tracks (steps : List Step) (standing : Standing) : Type 0 where
  pub forked : (u : ℕ) → u < THREADS → slice_index_or standing.forked u false ≡ list_any (λ s. item_forks u s.1) steps
  pub ended : (u : ℕ) → u < THREADS → slice_index_or standing.ended u false ≡ is_ended steps u
  pub holders : (m : ℕ) → m < MONITORS → slice_index_or standing.holders m None ≡ holder m steps

-- each depth is from 1 to most
abbrev pub IsWithin : ℕ → Standing → Type 0
IsWithin most standing = (m : ℕ) → m < MONITORS → IfSome (slice_index_or standing.holders m None) (λ h. (0 < h.1) × (h.1 ≤ most))
