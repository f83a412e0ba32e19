use Rattle.gl_table.proofs.Doing.{holds_none}
use Rattle.std.proofs.Common.{◌≡◌, ◌<◌, refl, sym, ap, subst, ◌∙◌, rules, FitsSigned, w64, suc}
use Rattle.std.specs.Prelude.{◌↔◌, None}
use Rattle.std.proofs.lemmas.Int.{to_z-of_z}
use Rattle.gl_model.specs.declared.limits.TheConstants.{THREADS}
use Rattle.gl_model.specs.declared.row.Question.{Question}
use Rattle.gl_draws.specs.RowFacts.{SomeFails, IsWithin}
use Rattle.gl_judge.specs.declared.judging.Verdict.TheVariants.{Race}
use Rattle.gl_judge.specs.Standing as judging
use Rattle.gl_judge.specs.Conflicting.{Keeps, Conflicts}
use Rattle.gl_model.specs.declared.row.Info.{Info}
use Rattle.gl_rule.specs.Levels.{levels_of, AreLeastEntered}
use Rattle.gl_shortcut.specs.Surely.{SayYesSurely}
use Rattle.gl_table.specs.PassView.{PassView, view_of, after}
use Rattle.gl_table.specs.Putting.{MayMarkPlain, marked_plain}
use Rattle.gl_rule.specs.View.{saw_tail}
use Rattle.gl_rows.specs.Accessing.{question_of, access_of}
use Rattle.gl_rows.specs.Walks.{HoldsRow, HasWalked}
use Rattle.gl_rows.proofs.Accessed.{walked_is, least_before, judged_row, holds_row, row_within, access_facts, may_mark_row, may_put_row, is_stored, is_judged, loads_none}
use Rattle.gl_rows.proofs.accessing.access.Goals as goal

pub check-requires-clause-held : goal.check-requires-clause-held
check-requires-clause-held g c =
    let is = c.tail-tail.ensures.pass ∙ ap (λ (q : PassView). after q (saw_tail (view_of q) c.tail-tail.result)) c.in-Ok.ensures.ok in
    subst (HoldsRow c.tail-tail.new.pass) (sym c.row.ensures)
    (holds_row c.args.pass.now c.args.var c.in-Ok.kept c.tail-tail.result c.tail-tail.new.pass is)

pub check-requires-clause-within : goal.check-requires-clause-within
check-requires-clause-within g c =
    let is = c.tail-tail.ensures.pass ∙ ap (λ (q : PassView). after q (saw_tail (view_of q) c.tail-tail.result)) c.in-Ok.ensures.ok in
    subst (λ r. IsWithin r c.tail-tail.new.pass.seen) (sym c.row.ensures)
    (row_within c.args.pass.now c.args.var c.in-Ok.kept c.tail-tail.result _ c.tail-tail.new.pass c.in-Ok.ensures.ok
    c.tail-tail.ensures.within is)

pub mark-nth-requires-clause-may : goal.mark-nth-requires-clause-may
mark-nth-requires-clause-may g c =
    let p = c.args.pass.now in
    let z = c.args.shared.now in
    let row = c.in-Ok.kept in
    let a = c.judged-access.result in
    let w = c.tail-tail.new.pass in
    let u = c.check.new.pass in
    let is = c.tail-tail.ensures.pass ∙ ap (λ (q : PassView). after q (saw_tail (view_of q) c.tail-tail.result)) c.in-Ok.ensures.ok in
    let walk = subst (λ r. HasWalked r w u) c.row.ensures c.check.ensures.pass in
    let fits : FitsSigned w64 a.value = search rules in
    let q : Question = record { thread = c.id.result; write = c.is_some.result; commit = None; held = c.monitors.result } in
    let judged = judged_row z.key.setting p c.args.var row c.tail-tail.result w u q c.args.write c.check.result c.is_race-race.result
    c.requires.may.runs is walk
    (c.id.ensures.is ∙ ap (λ (q : PassView). q.own.id) is) refl c.is_some.ensures (c.monitors.ensures.owned z.key.setting)
    (λ l f next stand. subst (λ r. (c.check.result ≡ Race) ↔ SomeFails l r q) c.row.ensures
    (c.check.ensures.race z.key.setting l f next (subst (judging.InfosStand z.key.setting l) (sym c.row.ensures) stand)))
    c.is_race-race.ensures in
    let same = c.judged-access.ensures ∙ ap (λ r. access_of r c.args.write c.is_race-race.result) c.row-2.ensures in
    simp to_z-of_z
    (subst (λ (q : PassView). MayMarkPlain z.key.setting q c.args.var a.write a.value a.raised)
    (sym (walked_is p c.args.var row c.tail-tail.result w u is walk))
    (may_mark_row z p c.args.var row c.tail-tail.result u.known u c.args.write c.is_race-race.result c.requires.may judged a same))

pub put_row-requires-clause-may : goal.put_row-requires-clause-may
put_row-requires-clause-may g c =
    let p = c.args.pass.now in
    let z = c.args.shared.now in
    let row = c.in-Ok.kept in
    let a = c.judged-access.result in
    let w = c.tail-tail.new.pass in
    let u = c.check.new.pass in
    let is = c.tail-tail.ensures.pass ∙ ap (λ (q : PassView). after q (saw_tail (view_of q) c.tail-tail.result)) c.in-Ok.ensures.ok in
    let walk = subst (λ r. HasWalked r w u) c.row.ensures c.check.ensures.pass in
    let fits : FitsSigned w64 a.value = search rules in
    let q : Question = record { thread = c.id.result; write = c.is_some.result; commit = None; held = c.monitors.result } in
    let drew = simp to_z-of_z at c.mark-nth.ensures in
    let made = drew ∙ ap (λ (q : PassView). marked_plain q c.args.var c.mark-nth.result a.write a.value a.raised)
    (walked_is p c.args.var row c.tail-tail.result w u is walk) in
    let own = c.id.ensures.is ∙ ap (λ (q : PassView). q.own.id) is in
    let same = c.judged-access.ensures ∙ ap (λ r. access_of r c.args.write c.is_race-race.result) c.row-2.ensures in
    let f = access_facts row c.args.write c.is_race-race.result in
    may_put_row z.key.setting p c.args.var row c.tail-tail.result u.known u c.requires.may.runs c.mark-nth.result q
    (subst (λ t. t < THREADS) own c.id.ensures.near) own refl
    (least_before z.key.setting p c.args.var row c.tail-tail.result w c.monitors.result is (c.monitors.ensures.owned z.key.setting))
    a (c.is_some.ensures ∙ sym (ap (λ a. a.write) same ∙ f.0)) (λ n r. ap (λ a. a.value) same
    ∙ f.2 (sym (ap (λ a. a.write) same) ∙ n) (sym (ap (λ a. a.raised) same) ∙ r))
    c.store.new.kept c.mark-nth.new.pass made c.store.ensures

pub returns-clause-judged : goal.returns-clause-judged
returns-clause-judged g c =
    let p = c.args.pass.now in
    let z = c.args.shared.now in
    let row = c.in-Ok.kept in
    let a = c.judged-access.result in
    let w = c.tail-tail.new.pass in
    let u = c.check.new.pass in
    let is = c.tail-tail.ensures.pass ∙ ap (λ (q : PassView). after q (saw_tail (view_of q) c.tail-tail.result)) c.in-Ok.ensures.ok in
    let walk = subst (λ r. HasWalked r w u) c.row.ensures c.check.ensures.pass in
    let fits : FitsSigned w64 a.value = search rules in
    let q : Question = record { thread = c.id.result; write = c.is_some.result; commit = None; held = c.monitors.result } in
    let drew = simp to_z-of_z at c.mark-nth.ensures in
    let made = drew ∙ ap (λ (q : PassView). marked_plain q c.args.var c.mark-nth.result a.write a.value a.raised)
    (walked_is p c.args.var row c.tail-tail.result w u is walk) in
    let same = c.judged-access.ensures ∙ ap (λ r. access_of r c.args.write c.is_race-race.result) c.row-2.ensures in
    is_judged z.key.setting p c.args.var row c.tail-tail.result u.known u c.mark-nth.result c.args.write c.is_race-race.result a
    c.answer.result c.put_row.new.pass w is
    (row_within p c.args.var row c.tail-tail.result _ w c.in-Ok.ensures.ok c.tail-tail.ensures.within is) walk refl same c.answer.ensures
    (is_stored p c.args.var row c.tail-tail.result u.known u c.mark-nth.result a c.mark-nth.new.pass c.put_row.new.pass
    c.requires.may.held made c.put_row.ensures)
    (judged_row z.key.setting p c.args.var row c.tail-tail.result w u q c.args.write c.check.result c.is_race-race.result
    c.requires.may.runs is walk
    (c.id.ensures.is ∙ ap (λ (q : PassView). q.own.id) is) refl c.is_some.ensures (c.monitors.ensures.owned z.key.setting)
    (λ l f next stand. subst (λ r. (c.check.result ≡ Race) ↔ SomeFails l r q) c.row.ensures
    (c.check.ensures.race z.key.setting l f next (subst (judging.InfosStand z.key.setting l) (sym c.row.ensures) stand)))
    c.is_race-race.ensures)

pub returns-clause-loads : goal.returns-clause-loads
returns-clause-loads g c =
    let p = c.args.pass.now in
    let row = c.in-Ok.kept in
    let a = c.judged-access.result in
    let w = c.tail-tail.new.pass in
    let u = c.check.new.pass in
    let is = c.tail-tail.ensures.pass ∙ ap (λ (q : PassView). after q (saw_tail (view_of q) c.tail-tail.result)) c.in-Ok.ensures.ok in
    let walk = subst (λ r. HasWalked r w u) c.row.ensures c.check.ensures.pass in
    let fits : FitsSigned w64 a.value = search rules in
    let drew = simp to_z-of_z at c.mark-nth.ensures in
    let made = drew ∙ ap (λ (q : PassView). marked_plain q c.args.var c.mark-nth.result a.write a.value a.raised)
    (walked_is p c.args.var row c.tail-tail.result w u is walk) in
    let stored = is_stored p c.args.var row c.tail-tail.result u.known u c.mark-nth.result a c.mark-nth.new.pass c.put_row.new.pass
    c.requires.may.held made c.put_row.ensures in
    let q : Question = record { thread = c.id.result; write = c.is_some.result; commit = None; held = c.monitors.result } in
    let by = c.id.ensures.is ∙ ap (λ (q : PassView). q.own.id) is in
    let same : q ≡ record (question_of p.own c.args.write) { held = c.monitors.result } =
    ap (λ t. record { thread = t; write = c.is_some.result; commit = None; held = c.monitors.result }) by
    ∙ ap (λ b. record { thread = p.own.id; write = b; commit = None; held = c.monitors.result }) c.is_some.ensures in (
      row,
      stored.reads,
      c.monitors.result,
      subst (λ (z : PassView). AreLeastEntered (levels_of z.own.mine) c.monitors.result) is c.monitors.ensures.is,
      λ sure.
          loads_none p c.args.var row c.tail-tail.result w u c.put_row.new.pass is
          (c.check.ensures.sure (subst (λ (z : Question). (i : Info) → Keeps c.row.result.now i → Conflicts i z → (i.thread < THREADS)
          × SayYesSurely c.args.cuts.now i z) (sym same)
          (subst (λ r. (i : Info) → Keeps r i → Conflicts i (record (question_of p.own c.args.write) { held = c.monitors.result })
          → (i.thread < THREADS) × SayYesSurely c.args.cuts.now i (record (question_of p.own c.args.write) { held = c.monitors.result }))
          (sym c.row.ensures) sure)))
          stored.known_is stored.cost,
    )

pub take_row-requires-clause-free : goal.take_row-requires-clause-free
take_row-requires-clause-free g c = holds_none c.args.pass.now.own.held (suc c.args.var) c.requires.may.held
