use Rattle.std.specs.Prelude.{filter}
use Rattle.std.proofs.Common.{sym, subst}
use Rattle.gl_model.specs.Lockset.{Has}
use Rattle.gl_model.specs.Locksets.{AfterAll, IsOrderedOrExcepted}
use Rattle.gl_draws.proofs.MovedInfos.{passes_greater}
use Rattle.gl_shortcut.specs.Asking.{is_of_two}
use Rattle.gl_shortcut.proofs.Filtered.{some_within_all, test_same}
use Rattle.gl_shortcut.proofs.Order.{passes_ordered}
use Rattle.gl_shortcut.proofs.offered.two_threads.Goals as goal

pub returns-clause-exact : goal.returns-clause-exact
returns-clause-exact c =
    test_same (Has c.walk_two.result) (AfterAll (Has c.args.info.now.set)
    (filter (is_of_two c.args.info.now.thread c.args.q.now.thread) c.args.window.now)) c.args.q.now.thread c.args.q.now.commit
    c.passes.result c.walk_two.ensures c.passes.ensures

pub returns-clause-order : goal.returns-clause-order
returns-clause-order c = λ t setting h at a write stands next.
    passes_ordered setting h c.args.info.now a write stands c.args.q.now next
    (subst (λ (xs : _). IsOrderedOrExcepted (AfterAll (Has c.args.info.now.set) xs) c.args.q.now.thread c.args.q.now.commit) (sym at)
    (passes_greater (Has c.walk_two.result) (AfterAll (Has c.args.info.now.set) c.args.window.now) c.args.q.now.thread c.args.q.now.commit
    (λ y k. some_within_all (is_of_two c.args.info.now.thread c.args.q.now.thread) c.args.window.now (Has c.args.info.now.set)
    (Has c.args.info.now.set) (λ z e. e) y ((c.walk_two.ensures y).0 k))
    (c.passes.ensures.0 t)))
