-- The options of the commands that run a program, by what the words give.
use Rattle.std.specs.Prelude.{◌&&◌, ℕ, Bool, not, List, Option, Some, None, is_none, option_and_then, option_map, unwrap_or, if◌then◌else◌}
use Rattle.gl_segments.specs.declared.Ring.{Ring}
use Rattle.gl_segments.specs.declared.TheConstants.{MOST_CELLS, MOST_SEGMENTS}
use Rattle.gl_threads.specs.declared.options.Options.{Options}
use Rattle.gl_words.specs.Options.{IsWithin, Word, nothing_given, read_options}
use Rattle.gl_words.specs.declared.options.Given.{Given}
use Rattle.gl_words.specs.declared.options.NumberOption.TheVariants.{Size, Workers}
use Rattle.gl_words.specs.declared.options.TheConstants.{DEFAULT_STEPS, DEFAULT_WORKERS}
use Rattle.gl_run.specs.declared.options.LoadOptions.{LoadOptions}
use Rattle.gl_run.specs.declared.options.RunOptions.{RunOptions}

-- ## What each command makes of them

-- the ring: what is given of it, and else the greatest
abbrev pub ring_of : Given → Ring
ring_of g = record { segments = unwrap_or g.segments MOST_SEGMENTS; cells = unwrap_or g.cells MOST_CELLS }

-- the options of a run: the numbers that are given, and else those that stand here
abbrev pub options_of : Given → Options
options_of g = record { workers = unwrap_or g.workers DEFAULT_WORKERS; steps = unwrap_or g.steps DEFAULT_STEPS; ring = ring_of g }

-- a run takes no size
abbrev pub run_of : Given → Option RunOptions
run_of g = if is_none g.size then Some (record { threads = options_of g; journal = g.journal }) else None

-- no option is given that a load does not take
abbrev pub suits_load : Given → Bool
suits_load g = is_none g.steps && is_none g.segments && is_none g.cells && not g.journal

abbrev pub load_with : Given → ℕ → LoadOptions
load_with g size = record { size = size; workers = unwrap_or g.workers DEFAULT_WORKERS }

-- a load takes a size and workers alone, and needs the size
abbrev pub load_of : Given → Option LoadOptions
load_of g = if suits_load g then option_map (load_with g) g.size else None

-- the size and the workers of a load are within their limits
abbrev pub IsLoad : LoadOptions → Type 0
IsLoad load = IsWithin Size load.size × IsWithin Workers load.workers

-- ## Words

-- the options that the words of a run say
abbrev pub run_options : List Word → Option RunOptions
run_options words = option_and_then run_of (read_options nothing_given words)

-- the options that the words of a load say
abbrev pub load_options : List Word → Option LoadOptions
load_options words = option_and_then load_of (read_options nothing_given words)
