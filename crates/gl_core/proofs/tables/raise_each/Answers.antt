use Rattle.std.proofs.Common.{◌∙◌, arith}
use Rattle.gl_core.specs.Cells.{at, cell}
use Rattle.gl_core.proofs.NotedAll.{raised_on}
use Rattle.gl_core.proofs.tables.raise_each.Goals as goal

pub loop-var-preserved : goal.loop-var-preserved
loop-var-preserved c = record {
  joined = λ x u. raised_on c.ids-var-items.result.now c.loop-var.var-index c.loop-var-test.true (at c.args.by.now)
      (cell c.loop-var.table.items) (cell c.raise_in.new.table.items) c.raise_in.ensures.joined x u ∙ c.loop-var.invariant.joined x u;
  room = c.raise_in.ensures.room;
  cost = let a = c.raise_in.ensures.cost in let b = c.loop-var.invariant.cost in omega arith;
}
