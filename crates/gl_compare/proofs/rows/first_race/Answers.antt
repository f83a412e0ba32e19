use Rattle.std.proofs.Common.{get_or, subst, false}
use Rattle.std.proofs.lemmas.Option.{slice_get-get_or}
use Rattle.gl_model.specs.declared.row.Question.{Question}
use Rattle.gl_compare.specs.Rows.{row_of, asked_part, Tells}
use Rattle.gl_compare.proofs.RowSets.{told_more, told_first, told_none}
use Rattle.gl_compare.proofs.rows.first_race.Goals as goal

pub returns-then-races : goal.returns-then-races
returns-then-races c =
    let xs = c.ids-var-items.result.now in
    let i = c.loop-var.var-index in
    told_first c.args.events.now c.args.rows.now xs c.args.variables.now (asked_part c.args.commit.now c.args.writes.now)
    c.ids-var-items.ensures.same i (get_or xs i 0) c.part.result c.races.result (slice_get-get_or xs i 0 c.loop-var-test.true)
    c.part.ensures c.if-races.true c.races.ensures c.loop-var.invariant

pub loop-var-preserved : goal.loop-var-preserved
loop-var-preserved c =
    let xs = c.ids-var-items.result.now in
    let i = c.loop-var.var-index in
    let x = get_or xs i 0 in
    told_more xs (λ y. Tells c.args.events.now (row_of c.args.rows.now y) (asked_part c.args.commit.now c.args.writes.now y) false) i x
    (slice_get-get_or xs i 0 c.loop-var-test.true)
    (subst (Tells c.args.events.now (row_of c.args.rows.now x) (asked_part c.args.commit.now c.args.writes.now x)) c.if-races.false
    (subst (λ (q : Question). Tells c.args.events.now (row_of c.args.rows.now x) q c.races.result) c.part.ensures c.races.ensures))
    c.loop-var.invariant

pub returns : goal.returns
returns c = told_none c.args.events.now c.args.rows.now c.ids-var-items.result.now c.args.variables.now
    (asked_part c.args.commit.now c.args.writes.now) c.ids-var-items.ensures.same c.loop-var.var-index c.loop-var-test.false
    c.loop-var.invariant
