-- What the table keeps at the start.
use Rattle.std.specs.Prelude.{ℕ, pos, replicate, slice_set, None}
use Rattle.gl_model.specs.declared.limits.TheConstants.{THREADS, MONITORS, VOLATILES}
use Rattle.gl_model.specs.declared.row.Row.{Row}
use Rattle.gl_state.specs.declared.state.Stage.TheVariants as stage
use Rattle.gl_state.specs.ListView.{ListView}

-- a row of a variable that nobody has accessed
abbrev pub empty_row : Row
empty_row = record { value = pos 0; last_write = None; reads = replicate THREADS None }

-- thread 0 is forked with the function of main, and nothing else is there
abbrev pub first_state : ℕ → ListView
first_state main = record {
  threads = slice_set (replicate THREADS stage.Never) 0 (stage.Forked main (pos 0));
  monitors = replicate MONITORS None;
  volatiles = replicate VOLATILES (pos 0);
  next_object = 0;
  next_variable = 0;
  next_volatile = 0;
  inputs_taken = 0;
}
