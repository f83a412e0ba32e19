use Rattle.std.specs.Prelude.{◌≡◌, Some}
use Rattle.gl_model.specs.Edges.{monitor, volatile, released, acquired}
use Rattle.gl_reference.proofs.Truths.{shared, synchronizes_by}
use Rattle.gl_reference.proofs.edges.synchronizes.Goals as goal

pub returns : goal.returns
returns c =
    let e = c.args.e.now in
    let f = c.args.f.now in
    synchronizes_by e f c.are_one-monitor.result c.are_one-volatile.result c.forks-fork.result c.begins-begin.result c.ends-end.result
    c.joins-join.result c.commits-commit.result
    (shared c.unlocked.result c.locked.result (λ o. released e.event ≡ Some (monitor o)) (λ o. acquired f.event ≡ Some (monitor o))
    c.are_one-monitor.result c.unlocked.ensures c.locked.ensures c.are_one-monitor.ensures)
    (shared c.written.result c.read.result (λ v. released e.event ≡ Some (volatile v)) (λ v. acquired f.event ≡ Some (volatile v))
    c.are_one-volatile.result c.written.ensures c.read.ensures c.are_one-volatile.ensures)
    c.forks-fork.ensures c.begins-begin.ensures c.ends-end.ensures c.joins-join.ensures c.commits-commit.ensures
