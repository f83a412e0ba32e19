use Rattle.std.proofs.Common.{◌≡◌, ◌-◌, Ok, subst}
use Rattle.gl_model.specs.declared.limits.TheConstants.{THREADS}
use Rattle.gl_trace.specs.Ids.{operand_of}
use Rattle.gl_trace.proofs.QuickLists.{commit_line}
use Rattle.gl_trace.proofs.quick.quick_commit.Goals as goal

pub returns-clause-said : goal.returns-clause-said
returns-clause-said c =
    let t = c.in_ok-thread.ensures.value in
    let a = c.in_ok-more.ensures in
    let b = c.in_ok-behind.ensures in
    let first : operand_of (THREADS - 1) t.0 ≡ Ok c.in_ok-thread.thread =
    subst (λ k. operand_of (k - 1) t.0 ≡ Ok c.in_ok-thread.thread) c.from.ensures t.2 in
    commit_line c.args.text.now c.in_ok-thread.rest.now c.in_ok-lists.lists.now c.in_ok-first.first.now c.in_ok-more.more.now
    c.in_ok-second.second.now c.in_ok-behind.behind.now t.0 a.0 b.0 c.in_ok-thread.thread c.set_before.new.kept c.set_before-2.new.kept
    t.1 c.in_ok-lists.ensures c.in_ok-first.ensures a.1 c.in_ok-second.ensures b.1 first a.2 b.2
