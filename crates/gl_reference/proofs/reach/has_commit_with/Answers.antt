use Rattle.gl_reference.specs.Steps.{IsCommitWith}
use Rattle.gl_reference.proofs.Marks.{one_marked, none_marked, none_more}
use Rattle.gl_reference.proofs.reach.has_commit_with.Goals as goal

pub loop-p-preserved : goal.loop-p-preserved
loop-p-preserved c = none_more c.args.events.now c.args.marks.now (IsCommitWith c.args.variables.now) c.loop-p.p c.loop-p.invariant
    (λ w. let yes = c.is_marked_commit.ensures.1 w in let no = c.if-is_marked_commit.false in cc)

pub returns-then-is_marked_commit : goal.returns-then-is_marked_commit
returns-then-is_marked_commit c = one_marked c.args.events.now c.args.marks.now (IsCommitWith c.args.variables.now) c.loop-p.p
    (c.is_marked_commit.ensures.0 c.if-is_marked_commit.true)

pub returns : goal.returns
returns c = none_marked c.args.events.now c.args.marks.now (IsCommitWith c.args.variables.now) c.loop-p.p c.loop-p-test.false
    c.loop-p.invariant
