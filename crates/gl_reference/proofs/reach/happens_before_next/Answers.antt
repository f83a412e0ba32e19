use Rattle.gl_reference.specs.Steps.{access_of}
use Rattle.gl_reference.proofs.Truths.{eq_test}
use Rattle.gl_reference.proofs.Marks.{commit_next}
use Rattle.gl_reference.proofs.reach.happens_before_next.Goals as goal

pub returns : goal.returns
returns c =
    let thread = rw c.deref.ensures.value at c.has_one_of-thread.ensures in
    let later = rw c.deref-in-Some.ensures.value at c.has_commit_with-later.ensures in
    rw c.in-Some.is (commit_next c.args.events.now (access_of c.args.access.now) c.in_ok-marks.marks.items c.in_ok-marks.ensures.0
    c.in_ok-marks.ensures.1 c.args.u c.in-Some.variables _ c.has_one_of-thread.result c.is_commit_on-one.result
    c.has_commit_with-later.result (eq_test c.args.access.now.thread c.args.u) thread c.is_commit_on-one.ensures later)
