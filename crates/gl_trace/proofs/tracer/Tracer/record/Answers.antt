use Rattle.std.proofs.Common.{arith, add-one}
use Rattle.gl_model.specs.Trace.{after_lines, before_lines, with_endings}
use Rattle.gl_trace.proofs.tracer.Tracer.record.Goals as goal

pub loop-thread-preserved : goal.loop-thread-preserved
loop-thread-preserved c =
    let t = c.loop-thread.thread in (
      λ lines start. rw (add-one t) (c.in_ok-finish.ensures.traces (with_endings t (after_lines lines before_lines))
          (c.loop-thread.invariant.0 lines start)),
      c.in_ok-finish.ensures.most _ _ (omega arith) c.loop-thread.invariant.1,
    )
