use Rattle.std.proofs.Common.{◌≡◌, ◌∙◌, sym, subst, true, false}
use Rattle.gl_model.specs.declared.row.Row.{Row}
use Rattle.gl_rows.specs.Walks.{HoldsRow, HasWalked}
use Rattle.gl_txn.specs.Racing.{asked_on}
use Rattle.gl_txn.proofs.Changes.{at_item}
use Rattle.gl_txn.proofs.Races.{says_same, holds_it, knows_more, clear_next, race_here, clear_all}
use Rattle.gl_txn.proofs.racing.first_race.Goals as goal

pub check-requires-clause-held : goal.check-requires-clause-held
check-requires-clause-held g c =
    let at = at_item c.args.rows.now c.loop-taken.taken-index c.taken-item.result c.loop-taken-test.true c.taken-item.is in
    subst (λ (row : Row). HoldsRow c.loop-taken.pass row) (sym c.row.ensures)
    (holds_it c.args.pass.now c.loop-taken.pass c.args.rows.now c.args.base.now c.args.writes.now c.requires.may c.loop-taken.invariant.0
    c.loop-taken.taken-index c.taken-item.result at)

pub returns-then-is_race-clause-judged : goal.returns-then-is_race-clause-judged
returns-then-is_race-clause-judged g c =
    let at = at_item c.args.rows.now c.loop-taken.taken-index c.taken-item.result c.loop-taken-test.true c.taken-item.is in
    let r = c.taken-item.result in
    let w = subst (λ (row : Row). HasWalked row c.loop-taken.pass c.check.new.pass) c.row.ensures c.check.ensures.pass in
    let says = says_same c.check.new.pass c.row.result.now r.row c.question-q.result (asked_on c.args.base.now c.args.writes.now r.var)
    c.check.result c.row.ensures c.question-q.ensures c.check.ensures.race in
    race_here c.args.pass.now c.loop-taken.pass c.args.rows.now c.args.base.now c.args.writes.now c.requires.may c.loop-taken.invariant.0
    c.loop-taken.taken-index r at c.check.new.pass w c.check.result says (c.is_race.ensures.0 c.if-is_race.true) c.loop-taken.invariant.1

pub loop-taken-preserved : goal.loop-taken-preserved
loop-taken-preserved g c =
    let at = at_item c.args.rows.now c.loop-taken.taken-index c.taken-item.result c.loop-taken-test.true c.taken-item.is in
    let r = c.taken-item.result in
    let w = subst (λ (row : Row). HasWalked row c.loop-taken.pass c.check.new.pass) c.row.ensures c.check.ensures.pass in
    let says = says_same c.check.new.pass c.row.result.now r.row c.question-q.result (asked_on c.args.base.now c.args.writes.now r.var)
    c.check.result c.row.ensures c.question-q.ensures c.check.ensures.race in (
      knows_more r.row c.args.pass.now c.loop-taken.pass c.check.new.pass c.loop-taken.invariant.0 w,
      clear_next c.args.pass.now c.loop-taken.pass c.args.rows.now c.args.base.now c.args.writes.now c.requires.may
          c.loop-taken.invariant.0 c.loop-taken.taken-index r at c.check.new.pass w c.check.result says
          (λ race. (let z : true ≡ false = sym (c.is_race.ensures.1 race) ∙ c.if-is_race.false in cc)) c.loop-taken.invariant.1,
      c.check.ensures.window ∙ c.loop-taken.invariant.2,
    )

pub returns-clause-judged : goal.returns-clause-judged
returns-clause-judged g c = clear_all c.loop-taken.pass c.args.base.now c.args.writes.now c.args.rows.now c.loop-taken.taken-index
    c.loop-taken-test.false c.loop-taken.invariant.1

pub returns-then-is_race-clause-pass : goal.returns-then-is_race-clause-pass
returns-then-is_race-clause-pass g c =
    let r = c.taken-item.result in
    let w = subst (λ (row : Row). HasWalked row c.loop-taken.pass c.check.new.pass) c.row.ensures c.check.ensures.pass in
    knows_more r.row c.args.pass.now c.loop-taken.pass c.check.new.pass c.loop-taken.invariant.0 w
