use Rattle.std.proofs.Common.{◌<◌, ◌/◌, ◌*◌, ap, arith, ◌∙◌}
use Rattle.gl_table.specs.PassView.{PassView}
use Rattle.gl_rows.proofs.Swept.{may_try, may_settle, swept}
use Rattle.gl_rows.proofs.sweeping.sweep.Goals as goal

pub settle-requires : goal.settle-requires
settle-requires c =
    let z = c.args.shared.now in
    let p = c.args.pass.now in
    let q = c.tail-tail.new.pass in
    let same = may_try z p q c.tail-tail.result c.requires.may c.tail-tail.ensures.pass in
    record {
      may = may_settle z p q c.try_rows.new.pass c.requires.may same.0 (ap (λ (x : PassView). x.spare) c.tail-tail.ensures.pass)
          c.try_rows.ensures.tried.still;
    }

pub returns-clause-swept : goal.returns-clause-swept
returns-clause-swept c =
    let z = c.args.shared.now in
    let p = c.args.pass.now in
    let q = c.tail-tail.new.pass in
    let same = may_try z p q c.tail-tail.result c.requires.may c.tail-tail.ensures.pass in
    let cells = c.ring.ensures.is.1 in
    let four = c.ring.ensures.valid.some_cells in
    let some : 0 < z.key.cells = omega arith in
    swept z p q c.try_rows.new.pass c.settle.new.pass c.tail-tail.result c.target-to.result c.settle.result some c.tail-tail.ensures.pass
    c.tail-tail.ensures.later same.0
    (c.target-to.ensures.is ∙ ap (λ n. c.tail-tail.result / n * n) cells) c.try_rows.ensures.tried c.settle.ensures.settled
