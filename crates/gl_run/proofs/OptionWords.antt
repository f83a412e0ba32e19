-- That what stands where the words give no number is within the limits of its option.
use Rattle.std.proofs.Common.{lit≤}
use Rattle.gl_segments.specs.declared.TheConstants.{MOST_CELLS, MOST_SEGMENTS}
use Rattle.gl_words.specs.Options.{IsWithin}
use Rattle.gl_words.specs.declared.options.NumberOption.TheVariants.{Workers, Steps, Segments, Cells}
use Rattle.gl_words.specs.declared.options.TheConstants.{DEFAULT_STEPS, DEFAULT_WORKERS}

-- the number of workers that stands where none is given is within its limits
pub workers_standard : IsWithin Workers DEFAULT_WORKERS
workers_standard = (lit≤ tt, lit≤ tt)

-- the number of steps that stands where none is given is within its limits
pub steps_standard : IsWithin Steps DEFAULT_STEPS
steps_standard = (lit≤ tt, lit≤ tt)

-- the number of segments that stands where none is given is within its limits
pub segments_standard : IsWithin Segments MOST_SEGMENTS
segments_standard = (lit≤ tt, lit≤ tt)

-- the number of cells that stands where none is given is within its limits
pub cells_standard : IsWithin Cells MOST_CELLS
cells_standard = (lit≤ tt, lit≤ tt)
