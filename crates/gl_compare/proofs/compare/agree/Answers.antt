use Rattle.std.proofs.Common.{◌≡◌, rules}
use Rattle.gl_core.specs.Follows.{Follows}
use Rattle.gl_reference.specs.Follows.{Follows as FollowsPlainly}
use Rattle.gl_compare.proofs.Agreement.{same_said, given_more, all_given}
use Rattle.gl_compare.proofs.compare.agree.Goals as goal

pub returns-then-ne-clause-same : goal.returns-then-ne-clause-same
returns-then-ne-clause-same c clean =
    let same : c.in_ok-judged.judged ≡ c.in_ok-step.field-0 =
    same_said Follows FollowsPlainly c.args.trace.now c.requires clean c.loop-thread.thread-index c.loop-thread-item.result
    c.loop-thread-test.true c.loop-thread-item.is c.loop-thread.detector c.step.new.self c.loop-thread.judge
    c.step-in-loop-thread.new.self c.args.tally.now
    c.loop-thread.tally c.loop-thread.tally (c.loop-thread.invariant.given clean) c.in_ok-judged.judged c.in_ok-step.field-0
    c.in_ok-judged.ensures.right c.in_ok-step.ensures.right in
    search (rules, same)

pub returns-then-ne-clause-counted : goal.returns-then-ne-clause-counted
returns-then-ne-clause-counted c clean =
    let same : c.in_ok-judged.judged ≡ c.in_ok-step.field-0 =
    same_said Follows FollowsPlainly c.args.trace.now c.requires clean c.loop-thread.thread-index c.loop-thread-item.result
    c.loop-thread-test.true c.loop-thread-item.is c.loop-thread.detector c.step.new.self c.loop-thread.judge
    c.step-in-loop-thread.new.self c.args.tally.now
    c.loop-thread.tally c.loop-thread.tally (c.loop-thread.invariant.given clean) c.in_ok-judged.judged c.in_ok-step.field-0
    c.in_ok-judged.ensures.right c.in_ok-step.ensures.right in
    search (rules, same)

pub loop-thread-preserved : goal.loop-thread-preserved
loop-thread-preserved c = record {
  ready = c.in_ok-judged.ensures.ready;
  given = λ clean. given_more Follows FollowsPlainly c.args.trace.now c.requires clean c.loop-thread.thread-index c.loop-thread-item.result
      c.loop-thread-test.true c.loop-thread-item.is c.loop-thread.detector c.step.new.self c.loop-thread.judge
      c.step-in-loop-thread.new.self
      c.args.tally.now c.loop-thread.tally c.count.new.self (c.loop-thread.invariant.given clean) c.in_ok-judged.judged c.in_ok-step.field-0
      c.in_ok-judged.ensures.right c.in_ok-step.ensures.right c.count.ensures;
}

pub returns-clause-counted : goal.returns-clause-counted
returns-clause-counted c = λ clean. all_given Follows FollowsPlainly c.args.trace.now c.loop-thread.thread-index c.loop-thread.detector
    c.loop-thread.judge c.args.tally.now c.loop-thread.tally c.loop-thread-test.false (c.loop-thread.invariant.given clean)
