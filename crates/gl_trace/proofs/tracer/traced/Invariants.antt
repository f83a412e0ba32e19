use Rattle.std.proofs.Common.{◌≡◌, ◌+◌, ◌*◌, drop, map}
use Rattle.gl_model.specs.Trace.{Tracing, after_lines, before_lines}
use Rattle.gl_trace.specs.Judging.{judged_lines, line_of}
use Rattle.gl_trace.specs.Traced.{Traces, IsUpTo}
use Rattle.gl_trace.proofs.tracer.traced.Given as goal

abbrev pub invariant-loop-i : goal.invariant-loop-i
invariant-loop-i l =
    ((s : Tracing) × Traces s l.tracer
    × (after_lines (map line_of (judged_lines (drop l.i l.lines) (drop l.i l.judged))) s
    ≡ after_lines (map line_of (judged_lines l.lines l.judged)) before_lines))
    × IsUpTo (2 * l.i + 1) l.tracer
