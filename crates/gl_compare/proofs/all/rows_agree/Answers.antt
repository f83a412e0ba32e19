use Rattle.std.proofs.Common.{◌≡◌, rules}
use Rattle.gl_core.specs.Follows.{Follows}
use Rattle.gl_compare.specs.RowsFollow.{Follows as FollowsRows}
use Rattle.gl_compare.proofs.Agreement.{same_said, given_more, all_given}
use Rattle.gl_compare.proofs.all.rows_agree.Goals as goal

pub returns-then-ne-clause-same : goal.returns-then-ne-clause-same
returns-then-ne-clause-same c clean =
    let same : c.in_ok-judged.judged ≡ c.in_ok-step.field-0 =
    same_said FollowsRows Follows c.args.trace.now c.requires clean c.loop-thread.thread-index c.loop-thread-item.result
    c.loop-thread-test.true c.loop-thread-item.is c.loop-thread.rows c.step.new.self c.loop-thread.detector
    c.step-in-loop-thread.new.self c.args.tally.now
    c.loop-thread.tally c.loop-thread.tally (c.loop-thread.invariant.given clean) c.in_ok-judged.judged c.in_ok-step.field-0
    c.in_ok-judged.ensures.right c.in_ok-step.ensures.right in
    search (rules, same)

pub returns-then-ne-clause-counted : goal.returns-then-ne-clause-counted
returns-then-ne-clause-counted c clean =
    let same : c.in_ok-judged.judged ≡ c.in_ok-step.field-0 =
    same_said FollowsRows Follows c.args.trace.now c.requires clean c.loop-thread.thread-index c.loop-thread-item.result
    c.loop-thread-test.true c.loop-thread-item.is c.loop-thread.rows c.step.new.self c.loop-thread.detector
    c.step-in-loop-thread.new.self c.args.tally.now
    c.loop-thread.tally c.loop-thread.tally (c.loop-thread.invariant.given clean) c.in_ok-judged.judged c.in_ok-step.field-0
    c.in_ok-judged.ensures.right c.in_ok-step.ensures.right in
    search (rules, same)

pub loop-thread-preserved : goal.loop-thread-preserved
loop-thread-preserved c = record {
  ready = c.in_ok-step.ensures.ready;
  rows = c.in_ok-judged.ensures.ready;
  given = λ clean. given_more FollowsRows Follows c.args.trace.now c.requires clean c.loop-thread.thread-index c.loop-thread-item.result
      c.loop-thread-test.true c.loop-thread-item.is c.loop-thread.rows c.step.new.self c.loop-thread.detector
      c.step-in-loop-thread.new.self
      c.args.tally.now c.loop-thread.tally c.count.new.self (c.loop-thread.invariant.given clean) c.in_ok-judged.judged c.in_ok-step.field-0
      c.in_ok-judged.ensures.right c.in_ok-step.ensures.right c.count.ensures;
}

pub returns-clause-counted : goal.returns-clause-counted
returns-clause-counted c = λ clean. all_given FollowsRows Follows c.args.trace.now c.loop-thread.thread-index c.loop-thread.rows
    c.loop-thread.detector c.args.tally.now c.loop-thread.tally c.loop-thread-test.false (c.loop-thread.invariant.given clean)
