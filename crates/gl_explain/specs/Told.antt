-- A line of a trace with what is said of it, as the trace and its record see it.
use Rattle.std.specs.Prelude.{List, map}
use Rattle.gl_model.specs.Trace.{Line}
use Rattle.gl_model.specs.TraceSteps.{Step}
use Rattle.gl_trace.specs.TraceLine.{TraceLine}
use Rattle.gl_explain.specs.declared.told.Told.{Told}
use Rattle.gl_explain.specs.declared.told.Kept.{Kept}

-- as the record of a trace reads it
abbrev pub line_of : Told → Line
line_of k = record { thread = k.thread; item = k.item; judged = k.judged }

abbrev pub lines_of : List Told → List Line
lines_of told = map line_of told

-- as the text says it
abbrev pub trace_line_of : Told → TraceLine
trace_line_of k = (k.line, k.thread, k.item)

abbrev pub trace_of : List Told → List TraceLine
trace_of told = map trace_line_of told

-- its thread and what it says
abbrev pub step_of : Told → Step
step_of k = (k.thread, k.item)

-- lines that were taken, without their marks
abbrev pub told_of : List Kept → List Told
told_of kept = map (λ k. k.told) kept
