use Rattle.std.proofs.Common.{◌+◌, ◌*◌, List}
use Rattle.gl_model.specs.Trace.{Line, after_lines, before_lines, with_endings}
use Rattle.gl_trace.specs.Traced.{Traces, IsUpTo}
use Rattle.gl_trace.specs.declared.limits.TheConstants.{TRACE_LINES}
use Rattle.gl_trace.proofs.tracer.Tracer.record.Given as goal

-- the threads below this one are over
abbrev pub invariant-loop-thread : goal.invariant-loop-thread
invariant-loop-thread l =
    ((lines : List Line) → Traces (after_lines lines before_lines) l.fn.self
    → Traces (with_endings l.thread (after_lines lines before_lines)) l.self)
    × IsUpTo (2 * TRACE_LINES + 1 + l.thread) l.self
