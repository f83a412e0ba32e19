-- What a run is asked with.
use Rattle.std.specs.Prelude.{◌<◌, ◌≤◌}
use Rattle.gl_segments.specs.Rings.{IsRing}
use Rattle.gl_threads.specs.declared.options.Options.{Options}
use Rattle.gl_threads.specs.declared.options.TheConstants.{MOST_WORKERS, MOST_STEPS}

-- 1 to 16 workers, 1 to 1,000,000 instructions for each thread, and a ring that a table may have
pub record AreOptions (o : Options) : Type 0 where
  pub some_workers : 0 < o.workers
  pub workers : o.workers ≤ MOST_WORKERS
  pub some_steps : 0 < o.steps
  pub steps : o.steps ≤ MOST_STEPS
  pub ring : IsRing o.ring
