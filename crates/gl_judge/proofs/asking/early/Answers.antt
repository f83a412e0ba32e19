use Rattle.std.proofs.Common.{inl, inr}
use Rattle.gl_judge.proofs.RowTests.{clear_passes, not_racy, rows_stand}
use Rattle.gl_judge.proofs.asking.early.Goals as goal

pub returns-then-is_clear-clause-right : goal.returns-then-is_clear-clause-right
returns-then-is_clear-clause-right g c = λ t setting h next stand.
    clear_passes setting h c.args.row.now c.args.q.now next stand
    (λ i keeps conf. elim keeps [
      | inl e ↦ c.is_clear.ensures.yes c.if-is_clear.true i e conf
      | inr e ↦ c.are_clear.ensures.yes t e.0 i e.1 conf
    ])

pub returns-then-is_clear-clause-not_racy : goal.returns-then-is_clear-clause-not_racy
returns-then-is_clear-clause-not_racy g c = λ t setting h x ds f next s a.
    not_racy setting h x ds c.args.row.now c.args.q.now s f a
    (clear_passes setting h c.args.row.now c.args.q.now next (rows_stand setting h x ds c.args.row.now s.stands)
    (λ i keeps conf. elim keeps [
      | inl e ↦ c.is_clear.ensures.yes c.if-is_clear.true i e conf
      | inr e ↦ c.are_clear.ensures.yes t e.0 i e.1 conf
    ]))

pub returns-then-is_clear-clause-sure : goal.returns-then-is_clear-clause-sure
returns-then-is_clear-clause-sure g c = λ p. c.are_clear.ensures.sure (λ t i e conf. p i (inr (t, e)) conf)

pub returns-else-is_clear-clause-sure : goal.returns-else-is_clear-clause-sure
returns-else-is_clear-clause-sure g c = λ p. let k = c.is_clear.ensures.sure (λ i e conf. p i (inl e) conf) in let n = c.if-is_clear.false
    in absurd (cc)
