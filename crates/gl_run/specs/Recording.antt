-- The record of a trace so far, where one is kept.
use Rattle.std.specs.Prelude.{◌+◌, ◌*◌, List, length, Option, Some, None}
use Rattle.gl_model.specs.Trace.{Line, after_lines, before_lines}
use Rattle.gl_trace.specs.Traced.{Traces, IsUpTo}
use Rattle.gl_trace.specs.declared.tracer.Tracer.{Tracer}
use Rattle.gl_run.specs.declared.keep.Keep.{Keep}
use Rattle.gl_run.specs.declared.keep.Keep.TheVariants.{Record, Nothing}

abbrev pub keep_of : Option Tracer → Keep
keep_of None = Nothing
keep_of (Some tracer) = Record

-- it is the record of these lines, where there is one
abbrev pub IsRecorded : List Line → Option Tracer → Type 0
IsRecorded lines None = Unit {0}
IsRecorded lines (Some tracer) = Traces (after_lines lines before_lines) tracer × IsUpTo (2 * length lines + 1) tracer
