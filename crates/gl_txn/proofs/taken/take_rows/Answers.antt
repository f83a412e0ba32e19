use Rattle.gl_txn.proofs.Holdings.{lacks_next}
use Rattle.std.proofs.Common.{sym, ap, refl, arith, ◌*◌, ◌∙◌, subst, ◌++◌, ◌+◌, [], ◌∷◌, take, get_or}
use Rattle.std.specs.Prelude.{List, ℕ}
use Rattle.std.proofs.lemmas.List.{take_more}
use Rattle.gl_model.specs.Kept.{AreVariables}
use Rattle.gl_txn.specs.Holding.{HaveTaken, HaveWrites, WereBusy}
use Rattle.gl_txn.specs.declared.taken.TakenRow.{TakenRow}
use Rattle.gl_txn.proofs.TakeSteps.{taken_more, writes_more, were_busy, take_are}
use Rattle.gl_txn.proofs.Costs.{costs_both, costs_steps}
use Rattle.gl_table.specs.PassView.{PassView}
use Rattle.gl_txn.proofs.taken.take_rows.Goals as goal

pub returns-in-Err-clause-busy : goal.returns-in-Err-clause-busy
returns-in-Err-clause-busy c =
    let busy = c.in-Err.ensures.busy in
    subst (λ (l : List ℕ). WereBusy l c.in-Err.busy.by c.args.pass.now c.put_rows.new.pass) c.ids-ids.ensures.same
    (were_busy c.args.pass.now c.loop-var.pass c.take_row.new.pass c.put_rows.new.pass c.ids-ids.result.now c.loop-var.var-index
    c.in-Err.busy.by c.loop-var.rows.items c.requires.held c.loop-var-test.true c.loop-var.invariant.0 busy.0 c.in-Err.ensures.other busy.1
    c.put_rows.ensures.pass)

pub loop-var-preserved : goal.loop-var-preserved
loop-var-preserved c =
    let ids = c.ids-ids.result.now in
    let i = c.loop-var.var-index in
    let are = take_are ids i (subst AreVariables (sym c.ids-ids.ensures.same) c.keeps.ensures) c.loop-var-test.true in
    let t = taken_more c.args.pass.now c.loop-var.pass c.take_row.new.pass (take i ids) c.loop-var.rows.items (get_or ids i 0)
    c.word_of.result c.in-Ok.row c.loop-var.invariant.0 are c.in-Ok.ensures.ok in (
      subst (λ (l : List TakenRow). HaveTaken c.args.pass.now c.take_row.new.pass (take (i + 1) ids) l) (sym c.keep.ensures.items)
          (subst (λ (ys : List ℕ). HaveTaken c.args.pass.now c.take_row.new.pass ys (c.loop-var.rows.items
          ++ record { var = get_or ids i 0; write = c.word_of.result; row = c.in-Ok.row } ∷ []))
          (sym (take_more ids i 0 c.loop-var-test.true)) t),
      subst (λ (l : List TakenRow). HaveWrites c.args.writes.now l) (sym c.keep.ensures.items)
          (writes_more c.args.writes.now c.loop-var.rows.items
          (record { var = get_or ids i 0; write = c.word_of.result; row = c.in-Ok.row })
          c.loop-var.invariant.1 c.word_of.ensures),
      c.keep.ensures.room ∙ c.loop-var.invariant.2,
      costs_both (2 * i) 2 (2 * (i + 1)) 0 0 0 c.args.pass.now c.loop-var.pass c.take_row.new.pass c.loop-var.invariant.3
          (costs_steps 2 c.loop-var.pass c.take_row.new.pass (ap (λ (z : PassView). z.known) c.in-Ok.ensures.ok)
          (ap (λ (z : PassView). z.moves) c.in-Ok.ensures.ok)) refl (omega arith),
    )

pub take_row-requires-clause-free : goal.take_row-requires-clause-free
take_row-requires-clause-free c =
    let ids = c.ids-ids.result.now in
    let i = c.loop-var.var-index in
    let t = c.loop-var.invariant.0 in
    let are = take_are ids i (subst AreVariables (sym c.ids-ids.ensures.same) c.keeps.ensures) c.loop-var-test.true in
    lacks_next c.loop-var.pass.own.held c.loop-var.rows.items (get_or ids i 0) t.held
    (subst (λ l. AreVariables (l ++ get_or ids i 0 ∷ [])) (sym t.of) are)
