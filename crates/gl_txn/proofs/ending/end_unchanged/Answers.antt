use Rattle.std.proofs.Common.{sym, ap, ◌∙◌, subst, List, Some, false, map}
use Rattle.gl_model.specs.declared.row.Question.{Question}
use Rattle.gl_model.specs.declared.tx.Tx.{Tx}
use Rattle.gl_model.specs.Kept.{AreVariables}
use Rattle.gl_table.specs.PassView.{PassView, shelf_of}
use Rattle.gl_model.specs.declared.tx.Why.TheVariants.{Raised}
use Rattle.gl_txn.specs.Drawing.{attempt_in}
use Rattle.gl_txn.specs.Ending.{IsCauseBy, IsWaitBy}
use Rattle.gl_txn.specs.Stages.{ReachedEnd, ReachedWait}
use Rattle.gl_txn.specs.declared.stops.TxEnd.{TxEnd}
use Rattle.gl_txn.specs.Racing.{MayJudge, AreClear, IsFirstRace}
use Rattle.gl_txn.specs.declared.taken.TakenRow.{TakenRow}
use Rattle.gl_txn.proofs.Ready.{may_judge, may_number_seen, draws_now, races_on, is_ready, done_cause, wait_cause, raised_cause, cause_ok, cause_err}
use Rattle.gl_txn.proofs.ending.end_unchanged.Goals as goal

pub first_race-requires-clause-may : goal.first_race-requires-clause-may
first_race-requires-clause-may g c =
    let p = c.args.pass.now in
    let rows = c.args.rows.now.items in
    let tx = c.args.tx.value in
    let e = c.as_slice.ensures.value in
    let base : Question = record { thread = c.id.result; write = false; commit = Some c.args.vars.now; held = c.monitors.result } in
    subst (λ (rows : List TakenRow). MayJudge c.tail.new.pass rows base) (sym e)
    (may_judge p c.tail.new.pass rows tx c.requires.holds c.tail.result c.tail.ensures.pass c.tail.ensures.within base c.id.ensures.is
    c.id.ensures.near c.monitors.ensures.owned)

pub drop_raised-requires-clause-may : goal.drop_raised-requires-clause-may
drop_raised-requires-clause-may g c =
    let p = c.args.pass.now in
    let rows = c.args.rows.now.items in
    let tx = c.args.tx.value in
    let e = c.as_slice.ensures.value in
    let base : Question = record { thread = c.id.result; write = false; commit = Some c.args.vars.now; held = c.monitors.result } in
    let thread = c.id.ensures.is ∙ ap (λ (u : PassView). u.own.id) c.tail.ensures.pass in
    let commit = ap (λ (ys : List _). Some ys) c.requires.vars in
    may_number_seen p c.tail.new.pass c.first_race.new.pass rows tx c.requires.holds c.tail.result c.tail.ensures.pass c.tail.ensures.below
    c.in-Some.ensures.pass base thread commit

pub drop_raised-requires-clause-draws : goal.drop_raised-requires-clause-draws
drop_raised-requires-clause-draws g c =
    let p = c.args.pass.now in
    let rows = c.args.rows.now.items in
    let tx = c.args.tx.value in
    let e = c.as_slice.ensures.value in
    let base : Question = record { thread = c.id.result; write = false; commit = Some c.args.vars.now; held = c.monitors.result } in
    let thread = c.id.ensures.is ∙ ap (λ (u : PassView). u.own.id) c.tail.ensures.pass in
    let commit = ap (λ (ys : List _). Some ys) c.requires.vars in
    draws_now p c.tail.new.pass c.first_race.new.pass rows tx c.requires.holds c.tail.result c.tail.ensures.pass c.tail.ensures.below
    c.in-Some.ensures.pass base thread commit

pub drop_raised-requires-clause-raised : goal.drop_raised-requires-clause-raised
drop_raised-requires-clause-raised g c =
    let p = c.args.pass.now in
    let rows = c.args.rows.now.items in
    let tx = c.args.tx.value in
    let e = c.as_slice.ensures.value in
    let base : Question = record { thread = c.id.result; write = false; commit = Some c.args.vars.now; held = c.monitors.result } in
    let thread = c.id.ensures.is ∙ ap (λ (u : PassView). u.own.id) c.tail.ensures.pass in
    let commit = ap (λ (ys : List _). Some ys) c.requires.vars in
    races_on p c.tail.new.pass c.first_race.new.pass rows tx c.requires.holds c.tail.result c.tail.ensures.pass c.tail.ensures.below
    c.in-Some.ensures.pass base thread commit c.requires.unchanged
    (subst (λ (t : Tx). AreVariables (map (λ l. l.var) t.looks)) c.deref.ensures c.keeps.ensures) c.in-Some.var
    (subst (λ (rows : List TakenRow). IsFirstRace c.first_race.new.pass base tx.writes rows c.in-Some.var) e
    (subst (λ (t : Tx). IsFirstRace c.first_race.new.pass base t.writes c.as_slice.result.now c.in-Some.var) c.deref-2.ensures
    c.in-Some.ensures.judged))

pub end_clear-requires-clause-ready : goal.end_clear-requires-clause-ready
end_clear-requires-clause-ready g c =
    let p = c.args.pass.now in
    let rows = c.args.rows.now.items in
    let tx = c.args.tx.value in
    let e = c.as_slice.ensures.value in
    let base : Question = record { thread = c.id.result; write = false; commit = Some c.args.vars.now; held = c.monitors.result } in
    let thread = c.id.ensures.is ∙ ap (λ (u : PassView). u.own.id) c.tail.ensures.pass in
    let commit = ap (λ (ys : List _). Some ys) c.requires.vars in
    is_ready p c.tail.new.pass c.first_race.new.pass rows tx c.requires.holds c.tail.result c.tail.ensures.pass c.tail.ensures.below
    c.in-None.ensures.pass base thread commit
    (subst (λ (rows : List TakenRow). AreClear c.first_race.new.pass base tx.writes rows) e
    (subst (λ (t : Tx). AreClear c.first_race.new.pass base t.writes c.as_slice.result.now) c.deref-2.ensures c.in-None.ensures.judged))
    c.requires.unchanged (subst (λ (t : Tx). AreVariables (map (λ l. l.var) t.looks)) c.deref.ensures c.keeps.ensures)

pub returns-in-Some-clause-cause : goal.returns-in-Some-clause-cause
returns-in-Some-clause-cause g c =
    let p = c.args.pass.now in
    let rows = c.args.rows.now.items in
    let tx = c.args.tx.value in
    let e = c.as_slice.ensures.value in
    let base : Question = record { thread = c.id.result; write = false; commit = Some c.args.vars.now; held = c.monitors.result } in
    let thread = c.id.ensures.is ∙ ap (λ (u : PassView). u.own.id) c.tail.ensures.pass in
    let commit = ap (λ (ys : List _). Some ys) c.requires.vars in
    let looks = subst (λ (t : Tx). AreVariables (map (λ l. l.var) t.looks)) c.deref.ensures c.keeps.ensures in
    subst (λ (f : TxEnd). IsCauseBy c.args.shared.now (attempt_in tx) f (shelf_of p) p.seen p.reads rows c.drop_raised.new.pass)
    (sym c.drop_raised.ensures.end)
    (raised_cause p c.tail.new.pass c.first_race.new.pass rows tx c.requires.holds c.tail.result c.tail.ensures.pass c.tail.ensures.below
    c.in-Some.ensures.pass base thread commit c.tail.ensures.later looks c.requires.unchanged c.tail.ensures.within c.args.shared.now
    c.in-Some.var
    (subst (λ (rows : List TakenRow). IsFirstRace c.first_race.new.pass base tx.writes rows c.in-Some.var) e
    (subst (λ (t : Tx). IsFirstRace c.first_race.new.pass base t.writes c.as_slice.result.now c.in-Some.var) c.deref-2.ensures
    c.in-Some.ensures.judged)) (Raised c.in-Some.var) c.drop_raised.new.pass c.drop_raised.ensures.dropped)

pub returns-in-None-clause-cause : goal.returns-in-None-clause-cause
returns-in-None-clause-cause g c =
    let p = c.args.pass.now in
    let rows = c.args.rows.now.items in
    let tx = c.args.tx.value in
    let e = c.as_slice.ensures.value in
    let base : Question = record { thread = c.id.result; write = false; commit = Some c.args.vars.now; held = c.monitors.result } in
    let thread = c.id.ensures.is ∙ ap (λ (u : PassView). u.own.id) c.tail.ensures.pass in
    let commit = ap (λ (ys : List _). Some ys) c.requires.vars in
    let looks = subst (λ (t : Tx). AreVariables (map (λ l. l.var) t.looks)) c.deref.ensures c.keeps.ensures in
    cause_ok c.args.shared.now c.end_clear.result (λ f. ReachedEnd c.args.shared.now f c.first_race.new.pass c.end_clear.new.pass)
    (λ f. IsCauseBy c.args.shared.now (attempt_in tx) f (shelf_of p) p.seen p.reads rows c.end_clear.new.pass)
    (λ f d. done_cause p c.tail.new.pass c.first_race.new.pass rows tx c.requires.holds c.tail.result c.tail.ensures.pass
    c.tail.ensures.below c.in-None.ensures.pass base thread commit c.tail.ensures.later looks c.requires.unchanged c.tail.ensures.within
    c.args.shared.now
    (subst (λ (rows : List TakenRow). AreClear c.first_race.new.pass base tx.writes rows) e
    (subst (λ (t : Tx). AreClear c.first_race.new.pass base t.writes c.as_slice.result.now) c.deref-2.ensures c.in-None.ensures.judged))
    f c.end_clear.new.pass d) c.end_clear.ensures.cause

pub returns-in-None-clause-wait : goal.returns-in-None-clause-wait
returns-in-None-clause-wait g c =
    let p = c.args.pass.now in
    let rows = c.args.rows.now.items in
    let tx = c.args.tx.value in
    let e = c.as_slice.ensures.value in
    let base : Question = record { thread = c.id.result; write = false; commit = Some c.args.vars.now; held = c.monitors.result } in
    let thread = c.id.ensures.is ∙ ap (λ (u : PassView). u.own.id) c.tail.ensures.pass in
    let commit = ap (λ (ys : List _). Some ys) c.requires.vars in
    let looks = subst (λ (t : Tx). AreVariables (map (λ l. l.var) t.looks)) c.deref.ensures c.keeps.ensures in
    cause_err c.args.shared.now c.end_clear.result (λ w. ReachedWait c.args.shared.now w c.first_race.new.pass c.end_clear.new.pass)
    (λ w. IsWaitBy c.args.shared.now (attempt_in tx) w (shelf_of p) p.seen p.reads rows c.end_clear.new.pass)
    (λ w d. wait_cause p c.tail.new.pass c.first_race.new.pass rows tx c.requires.holds c.tail.result c.tail.ensures.pass
    c.tail.ensures.below c.in-None.ensures.pass base thread commit c.tail.ensures.later looks c.requires.unchanged c.tail.ensures.within
    c.args.shared.now
    (subst (λ (rows : List TakenRow). AreClear c.first_race.new.pass base tx.writes rows) e
    (subst (λ (t : Tx). AreClear c.first_race.new.pass base t.writes c.as_slice.result.now) c.deref-2.ensures c.in-None.ensures.judged))
    w c.end_clear.new.pass d) c.end_clear.ensures.wait
