-- What `load` answers.
use Rattle.std.specs.Prelude.{◌≡◌, ℕ, List, [], Option, Some}
use Rattle.gl_gen.specs.Bank.{bank_program}
use Rattle.gl_model.specs.Report.{summary_of}
use Rattle.gl_segments.specs.declared.TheConstants.{MOST_CELLS, MOST_SEGMENTS}
use Rattle.gl_table.specs.SealedView.{SealedView}
use Rattle.gl_threads.specs.declared.options.Options.{Options}
use Rattle.gl_run.specs.Runs.{IsRunOf, run_status}
use Rattle.gl_run.specs.declared.kept.Kept.{Kept}
use Rattle.gl_run.specs.declared.kept.Kept.TheVariants.{Run}
use Rattle.gl_run.specs.declared.load.TheConstants.{LOAD_STEPS}
use Rattle.gl_run.specs.declared.options.LoadOptions.{LoadOptions}

-- a bank is run by the workers that are asked for, with the steps of a load, over the ring that a run has where its options say nothing
abbrev pub bank_options : LoadOptions → Options
bank_options load = record { workers = load.workers; steps = LOAD_STEPS; ring = record { segments = MOST_SEGMENTS; cells = MOST_CELLS } }

-- the status, the bytes and what is kept of a load: those of one closed table, which is that of a run of the bank of this size, without
-- inputs
pub record AnswersLoad (load : LoadOptions) (status : ℕ) (bytes : List ℕ) (kept : Option Kept) : Type 0 where
  pub made : SealedView
  pub run : IsRunOf (bank_program load.size) [] (bank_options load) made
  pub status_is : status ≡ run_status made.entries
  pub bytes_are : bytes ≡ summary_of made.entries
  pub kept_is : kept ≡ Some (Run made)
