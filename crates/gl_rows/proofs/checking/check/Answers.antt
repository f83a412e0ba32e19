use Rattle.std.proofs.Common.{◌≡◌}
use Rattle.gl_judge.specs.declared.judging.Verdict.{Verdict}
use Rattle.gl_judge.specs.declared.judging.Verdict.TheVariants.{Race, Ordered}
use Rattle.gl_rows.proofs.Costs.{check_costs}
use Rattle.gl_rows.proofs.Windows.{not_walked}
use Rattle.gl_rows.proofs.checking.check.Goals as goal

pub returns-then-early-clause-pass : goal.returns-then-early-clause-pass
returns-then-early-clause-pass g c = not_walked c.args.row.now c.args.pass.now

-- a yes of the early cuts is right
pub returns-then-early-clause-race : goal.returns-then-early-clause-race
returns-then-early-clause-race g c = λ setting l fits next stand. (
  λ e. absurd (let apart : ◌≡◌ {A = Verdict} Ordered Race = e in cc),
  λ s. absurd (c.early.ensures.right c.if-early.true setting l next stand s),
)

pub returns-clause-cost : goal.returns-clause-cost
returns-clause-cost g c = check_costs c.args.row.now c.args.pass.now c.walked.new.pass c.walked.ensures.pass
