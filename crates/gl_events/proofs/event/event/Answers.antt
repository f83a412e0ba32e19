use Rattle.std.proofs.Common.{rules, sym, ap, subst, ◌∙◌, false}
use Rattle.std.proofs.Common.{FitsSigned, w64}
use Rattle.std.proofs.lemmas.Int.{to_z-of_z}
use Rattle.std.specs.Prelude.{◌≡◌, ◌≤◌}
use Rattle.gl_rule.specs.declared.slot.Slot.TheVariants as slot
use Rattle.gl_rule.specs.View.{saw, saw_tail, Hold}
use Rattle.gl_table.specs.Doing.{announced}
use Rattle.gl_table.specs.PassView.{PassView, view_of, shelf_of, after}
use Rattle.gl_table.specs.Putting.{MayPutBack, MayPublishAct}
use Rattle.gl_table.proofs.Doing.{may_put_full, holds_none}
use Rattle.gl_events.specs.Acting.{IsPlan, Becomes}
use Rattle.gl_events.proofs.Beginnings.{sound, start_near}
use Rattle.gl_events.proofs.Publishing.{put_refused, publishable, answered}
use Rattle.gl_events.proofs.event.event.Goals as goal

pub look-requires-clause-sound : goal.look-requires-clause-sound
look-requires-clause-sound c =
    let z = c.args.shared.now in
    sound z.key.setting (view_of c.args.pass.now) c.in-Ok.state c.id.result c.in-Ok.ensures.told
    (start_near z.key.setting c.main-main.result c.main-main.ensures.is c.main-main.ensures.near c.main-main.ensures.forkable)

pub put_list-requires-clause-may : goal.put_list-requires-clause-may
put_list-requires-clause-may c =
    let setting = c.args.shared.now.key.setting in
    let put = put_refused c.args.call.now setting c.args.pass.now c.id.result c.in-Ok.state c.in-Err-look.stop c.is_quiet.result
    c.is_quiet.ensures c.in-Err-look.ensures.refuses in
    subst (λ (q : PassView). MayPutBack setting (shelf_of q) (view_of q) 0 (slot.List c.in-Ok.state) c.is_quiet.result)
    (sym c.in-Ok.ensures.ok) put

pub put_list-requires-then-not-room-clause-may : goal.put_list-requires-then-not-room-clause-may
put_list-requires-then-not-room-clause-may c =
    let is = c.tail-tail.ensures.pass ∙ ap (λ (q : PassView). after q (saw_tail (view_of q) c.tail-tail.result)) (c.low-low.ensures.pass
    ∙ ap (λ (q : PassView). after q (saw (view_of q) (Hold 0 c.low-low.result))) c.in-Ok.ensures.ok) in
    subst (λ (q : PassView). MayPutBack c.args.shared.now.key.setting (shelf_of q) (view_of q) 0 (slot.List c.in-Ok.state) false) (sym is)
    (may_put_full c.args.shared.now.key.setting c.args.pass.now c.in-Ok.state c.low-low.result c.tail-tail.result)

pub announce-at-requires-clause-may : goal.announce-at-requires-clause-may
announce-at-requires-clause-may c =
    let p = c.args.pass.now in
    let z = c.args.shared.now in
    let a = c.in-Ok-look.plan in
    let is = c.tail-tail.ensures.pass ∙ ap (λ (q : PassView). after q (saw_tail (view_of q) c.tail-tail.result)) (c.low-low.ensures.pass
    ∙ ap (λ (q : PassView). after q (saw (view_of q) (Hold 0 c.low-low.result))) c.in-Ok.ensures.ok) in
    let first = c.id.ensures.is ∙ ap (λ (q : PassView). q.own.id) c.in-Ok.ensures.ok in
    let second = c.id-2.ensures.is ∙ ap (λ (q : PassView). q.own.id) is in
    let plan = subst (λ t. IsPlan c.args.call.now z.key.setting t c.in-Ok.state a) first c.in-Ok-look.ensures.plan in
    let to = subst (λ t. Becomes z.key.setting t a.act a.value c.in-Ok.state c.apply.new.state) second c.apply.ensures in
    subst (λ (q : PassView). MayPublishAct z.key q a.act a.value c.apply.new.state) (sym is)
    (publishable c.args.call.now z p c.in-Ok.state c.apply.new.state c.low-low.result c.tail-tail.result a.act a.value c.requires.may
    c.in-Ok.ensures.told plan.0 plan.1 to (search rules))

pub returns-clause-done : goal.returns-clause-done
returns-clause-done c =
    let p = c.args.pass.now in
    let z = c.args.shared.now in
    let a = c.in-Ok-look.plan in
    let is = c.tail-tail.ensures.pass ∙ ap (λ (q : PassView). after q (saw_tail (view_of q) c.tail-tail.result)) (c.low-low.ensures.pass
    ∙ ap (λ (q : PassView). after q (saw (view_of q) (Hold 0 c.low-low.result))) c.in-Ok.ensures.ok) in
    let first = c.id.ensures.is ∙ ap (λ (q : PassView). q.own.id) c.in-Ok.ensures.ok in
    let second = c.id-2.ensures.is ∙ ap (λ (q : PassView). q.own.id) is in
    let plan = subst (λ t. IsPlan c.args.call.now z.key.setting t c.in-Ok.state a) first c.in-Ok-look.ensures.plan in
    let to = subst (λ t. Becomes z.key.setting t a.act a.value c.in-Ok.state c.apply.new.state) second c.apply.ensures in
    let fits : FitsSigned w64 a.value = search rules in
    let answer = simp to_z-of_z at c.answer.ensures in
    let later = subst (λ (q : PassView). q.seen ≤ c.tail-tail.result) (c.low-low.ensures.pass
    ∙ ap (λ (q : PassView). after q (saw (view_of q) (Hold 0 c.low-low.result))) c.in-Ok.ensures.ok) c.tail-tail.ensures.later in
    let here = subst (λ (q : PassView). c.announce-at.result ≡ q.seen) is c.announce-at.ensures.here in
    answered c.args.call.now z p c.announce-at.new.pass c.in-Ok.state c.apply.new.state c.low-low.result c.tail-tail.result
    c.announce-at.result a.act a.value c.answer.result c.requires.may c.in-Ok.ensures.told plan to (search rules) later here answer
    (c.announce-at.ensures.is ∙ ap (λ (q : PassView). announced q a.act a.value c.announce-at.result (slot.List c.apply.new.state)) is)

pub take_list-requires-clause-free : goal.take_list-requires-clause-free
take_list-requires-clause-free c = holds_none c.args.pass.now.own.held 0 c.requires.may.held
