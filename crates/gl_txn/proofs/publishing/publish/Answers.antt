use Rattle.std.proofs.Common.{◌≡◌, ◌<◌, sym, ap, ◌∙◌, subst, refl, List, [], ◌∷◌, Some}
use Rattle.std.specs.Prelude.{ℕ}
use Rattle.gl_model.specs.declared.tx.Tx.{Tx}
use Rattle.gl_model.specs.Records.{variables_of}
use Rattle.gl_rule.specs.declared.slot.Slot.TheVariants as slot
use Rattle.gl_rule.specs.View.{Held, new_held, with_tail}
use Rattle.gl_table.specs.Committing.{MayPublishTx}
use Rattle.gl_table.specs.PassView.{PassView}
use Rattle.gl_txn.specs.Drawing.{HasDrawn, MayNumber, numbered, drew_on}
use Rattle.gl_txn.specs.Holding.{AreHeld, undrawn, vars_of}
use Rattle.gl_txn.specs.Noting.{AreCommitted}
use Rattle.gl_txn.specs.Publishing.{with_room}
use Rattle.gl_txn.specs.declared.taken.TakenRow.{TakenRow}
use Rattle.gl_txn.proofs.Publishes.{held_there, numbers_there, may_publish, list_back, committed, published_is}
use Rattle.gl_txn.proofs.publishing.publish.Goals as goal

pub draw_numbers-requires-clause-may : goal.draw_numbers-requires-clause-may
draw_numbers-requires-clause-may c =
    let z = c.args.shared.now in
    let p = c.args.pass.now in
    let rows = c.args.rows.now.items in
    let tx0 = c.args.tx.value in
    let l = c.args.state in
    let m = c.requires.may in
    let low = m.reached.low in
    let tail = m.reached.tail in
    let e = c.as_slice.ensures.value in
    subst (λ (rows : List TakenRow). MayNumber p rows) (sym e)
    (subst (λ (p : PassView). MayNumber p rows) (sym m.reached.is)
    (numbers_there z m.first rows tx0 l m.ready m.told low tail m.reached.later m.reached.room))

pub publish_commit-at-requires-clause-table : goal.publish_commit-at-requires-clause-table
publish_commit-at-requires-clause-table c =
    let z = c.args.shared.now in
    let p = c.args.pass.now in
    let rows = c.args.rows.now.items in
    let tx0 = c.args.tx.value in
    let l = c.args.state in
    let m = c.requires.may in
    let low = m.reached.low in
    let tail = m.reached.tail in
    let e = c.as_slice.ensures.value in
    let q = c.draw_numbers.new.pass in
    let numbers = c.draw_numbers.new.numbers in
    let t = c.deref_mut.ensures.value in
    let lh : Held = with_tail tail (new_held 0 (slot.List l)) in
    let tails : List ℕ = tail ∷ m.first.seen ∷ [] in
    let there : AreHeld p.own.held (Some lh) rows tails undrawn =
    subst (λ (p : PassView). AreHeld p.own.held (Some lh) rows tails undrawn) (sym m.reached.is)
    (held_there z m.first rows tx0 l m.ready m.told low tail m.reached.later m.reached.room) in
    let d : HasDrawn p q (Some lh) rows tails numbers = subst (λ (rows : List TakenRow). HasDrawn p q (Some lh) rows tails numbers) e
    (c.draw_numbers.ensures.drawn (Some lh) tails
    (subst (λ (rows : List TakenRow). AreHeld p.own.held (Some lh) rows tails undrawn) (sym e) there)) in
    let all : numbered numbers ≡ vars_of rows =
    subst (λ (rows : List TakenRow). numbered numbers ≡ vars_of rows) e c.draw_numbers.ensures.all in
    let dp : HasDrawn (with_room m.first l low tail) q (Some lh) rows tails numbers =
    subst (λ (p : PassView). HasDrawn p q (Some lh) rows tails numbers) m.reached.is d in
    ap (λ (z : PassView). z.own.table) d.is ∙ c.requires.table

pub publish_commit-at-requires-clause-spare : goal.publish_commit-at-requires-clause-spare
publish_commit-at-requires-clause-spare c =
    let z = c.args.shared.now in
    let p = c.args.pass.now in
    let rows = c.args.rows.now.items in
    let tx0 = c.args.tx.value in
    let l = c.args.state in
    let m = c.requires.may in
    let low = m.reached.low in
    let tail = m.reached.tail in
    let e = c.as_slice.ensures.value in
    let q = c.draw_numbers.new.pass in
    let numbers = c.draw_numbers.new.numbers in
    let t = c.deref_mut.ensures.value in
    let lh : Held = with_tail tail (new_held 0 (slot.List l)) in
    let tails : List ℕ = tail ∷ m.first.seen ∷ [] in
    let there : AreHeld p.own.held (Some lh) rows tails undrawn =
    subst (λ (p : PassView). AreHeld p.own.held (Some lh) rows tails undrawn) (sym m.reached.is)
    (held_there z m.first rows tx0 l m.ready m.told low tail m.reached.later m.reached.room) in
    let d : HasDrawn p q (Some lh) rows tails numbers = subst (λ (rows : List TakenRow). HasDrawn p q (Some lh) rows tails numbers) e
    (c.draw_numbers.ensures.drawn (Some lh) tails
    (subst (λ (rows : List TakenRow). AreHeld p.own.held (Some lh) rows tails undrawn) (sym e) there)) in
    let all : numbered numbers ≡ vars_of rows =
    subst (λ (rows : List TakenRow). numbered numbers ≡ vars_of rows) e c.draw_numbers.ensures.all in
    let dp : HasDrawn (with_room m.first l low tail) q (Some lh) rows tails numbers =
    subst (λ (p : PassView). HasDrawn p q (Some lh) rows tails numbers) m.reached.is d in
    subst (λ (z : PassView). 0 < z.spare) (sym d.is) c.requires.spare

pub publish_commit-at-requires-clause-may : goal.publish_commit-at-requires-clause-may
publish_commit-at-requires-clause-may c =
    let z = c.args.shared.now in
    let p = c.args.pass.now in
    let rows = c.args.rows.now.items in
    let tx0 = c.args.tx.value in
    let l = c.args.state in
    let m = c.requires.may in
    let low = m.reached.low in
    let tail = m.reached.tail in
    let e = c.as_slice.ensures.value in
    let q = c.draw_numbers.new.pass in
    let numbers = c.draw_numbers.new.numbers in
    let t = c.deref_mut.ensures.value in
    let lh : Held = with_tail tail (new_held 0 (slot.List l)) in
    let tails : List ℕ = tail ∷ m.first.seen ∷ [] in
    let there : AreHeld p.own.held (Some lh) rows tails undrawn =
    subst (λ (p : PassView). AreHeld p.own.held (Some lh) rows tails undrawn) (sym m.reached.is)
    (held_there z m.first rows tx0 l m.ready m.told low tail m.reached.later m.reached.room) in
    let d : HasDrawn p q (Some lh) rows tails numbers = subst (λ (rows : List TakenRow). HasDrawn p q (Some lh) rows tails numbers) e
    (c.draw_numbers.ensures.drawn (Some lh) tails
    (subst (λ (rows : List TakenRow). AreHeld p.own.held (Some lh) rows tails undrawn) (sym e) there)) in
    let all : numbered numbers ≡ vars_of rows =
    subst (λ (rows : List TakenRow). numbered numbers ≡ vars_of rows) e c.draw_numbers.ensures.all in
    let dp : HasDrawn (with_room m.first l low tail) q (Some lh) rows tails numbers =
    subst (λ (p : PassView). HasDrawn p q (Some lh) rows tails numbers) m.reached.is d in
    subst (λ (t : Tx). MayPublishTx z.key q (record { looks = t.looks; writes = t.writes; numbers = numbers }) l) (sym t)
    (subst (λ (q : PassView). MayPublishTx z.key q (record { looks = tx0.looks; writes = tx0.writes; numbers = numbers }) l) (sym dp.is)
    (may_publish z m.first rows tx0 l m.ready m.told low tail m.reached.later m.reached.room q.own.held numbers dp.held dp.above all))

pub put_list-requires-clause-table : goal.put_list-requires-clause-table
put_list-requires-clause-table c =
    let z = c.args.shared.now in
    let p = c.args.pass.now in
    let rows = c.args.rows.now.items in
    let tx0 = c.args.tx.value in
    let l = c.args.state in
    let m = c.requires.may in
    let low = m.reached.low in
    let tail = m.reached.tail in
    let e = c.as_slice.ensures.value in
    let q = c.draw_numbers.new.pass in
    let numbers = c.draw_numbers.new.numbers in
    let t = c.deref_mut.ensures.value in
    let lh : Held = with_tail tail (new_held 0 (slot.List l)) in
    let tails : List ℕ = tail ∷ m.first.seen ∷ [] in
    let there : AreHeld p.own.held (Some lh) rows tails undrawn =
    subst (λ (p : PassView). AreHeld p.own.held (Some lh) rows tails undrawn) (sym m.reached.is)
    (held_there z m.first rows tx0 l m.ready m.told low tail m.reached.later m.reached.room) in
    let d : HasDrawn p q (Some lh) rows tails numbers = subst (λ (rows : List TakenRow). HasDrawn p q (Some lh) rows tails numbers) e
    (c.draw_numbers.ensures.drawn (Some lh) tails
    (subst (λ (rows : List TakenRow). AreHeld p.own.held (Some lh) rows tails undrawn) (sym e) there)) in
    let all : numbered numbers ≡ vars_of rows =
    subst (λ (rows : List TakenRow). numbered numbers ≡ vars_of rows) e c.draw_numbers.ensures.all in
    let dp : HasDrawn (with_room m.first l low tail) q (Some lh) rows tails numbers =
    subst (λ (p : PassView). HasDrawn p q (Some lh) rows tails numbers) m.reached.is d in
    ap (λ (z : PassView). z.own.table) c.publish_commit-at.ensures.published ∙ ap (λ (z : PassView). z.own.table) d.is ∙ c.requires.table

pub put_list-requires-clause-may : goal.put_list-requires-clause-may
put_list-requires-clause-may c =
    let z = c.args.shared.now in
    let p = c.args.pass.now in
    let rows = c.args.rows.now.items in
    let tx0 = c.args.tx.value in
    let l = c.args.state in
    let m = c.requires.may in
    let low = m.reached.low in
    let tail = m.reached.tail in
    let e = c.as_slice.ensures.value in
    let q = c.draw_numbers.new.pass in
    let numbers = c.draw_numbers.new.numbers in
    let t = c.deref_mut.ensures.value in
    let lh : Held = with_tail tail (new_held 0 (slot.List l)) in
    let tails : List ℕ = tail ∷ m.first.seen ∷ [] in
    let there : AreHeld p.own.held (Some lh) rows tails undrawn =
    subst (λ (p : PassView). AreHeld p.own.held (Some lh) rows tails undrawn) (sym m.reached.is)
    (held_there z m.first rows tx0 l m.ready m.told low tail m.reached.later m.reached.room) in
    let d : HasDrawn p q (Some lh) rows tails numbers = subst (λ (rows : List TakenRow). HasDrawn p q (Some lh) rows tails numbers) e
    (c.draw_numbers.ensures.drawn (Some lh) tails
    (subst (λ (rows : List TakenRow). AreHeld p.own.held (Some lh) rows tails undrawn) (sym e) there)) in
    let all : numbered numbers ≡ vars_of rows =
    subst (λ (rows : List TakenRow). numbered numbers ≡ vars_of rows) e c.draw_numbers.ensures.all in
    let dp : HasDrawn (with_room m.first l low tail) q (Some lh) rows tails numbers =
    subst (λ (p : PassView). HasDrawn p q (Some lh) rows tails numbers) m.reached.is d in
    let tx : Tx = record { looks = c.deref_mut.result.now.looks; writes = c.deref_mut.result.now.writes; numbers = numbers } in
    let n = c.publish_commit-at.result in
    let r = c.publish_commit-at.new.pass in
    let are : vars_of rows ≡ variables_of tx = m.ready.of ∙ ap (λ (t : Tx). variables_of t) (sym t) in
    list_back z.key.setting q r l lh refl rows tails (drew_on p (numbered numbers)) d.held tx n are c.publish_commit-at.ensures.published

pub put_all_noted-requires-clause-table : goal.put_all_noted-requires-clause-table
put_all_noted-requires-clause-table c =
    let z = c.args.shared.now in
    let p = c.args.pass.now in
    let rows = c.args.rows.now.items in
    let tx0 = c.args.tx.value in
    let l = c.args.state in
    let m = c.requires.may in
    let low = m.reached.low in
    let tail = m.reached.tail in
    let e = c.as_slice.ensures.value in
    let q = c.draw_numbers.new.pass in
    let numbers = c.draw_numbers.new.numbers in
    let t = c.deref_mut.ensures.value in
    let lh : Held = with_tail tail (new_held 0 (slot.List l)) in
    let tails : List ℕ = tail ∷ m.first.seen ∷ [] in
    let there : AreHeld p.own.held (Some lh) rows tails undrawn =
    subst (λ (p : PassView). AreHeld p.own.held (Some lh) rows tails undrawn) (sym m.reached.is)
    (held_there z m.first rows tx0 l m.ready m.told low tail m.reached.later m.reached.room) in
    let d : HasDrawn p q (Some lh) rows tails numbers = subst (λ (rows : List TakenRow). HasDrawn p q (Some lh) rows tails numbers) e
    (c.draw_numbers.ensures.drawn (Some lh) tails
    (subst (λ (rows : List TakenRow). AreHeld p.own.held (Some lh) rows tails undrawn) (sym e) there)) in
    let all : numbered numbers ≡ vars_of rows =
    subst (λ (rows : List TakenRow). numbered numbers ≡ vars_of rows) e c.draw_numbers.ensures.all in
    let dp : HasDrawn (with_room m.first l low tail) q (Some lh) rows tails numbers =
    subst (λ (p : PassView). HasDrawn p q (Some lh) rows tails numbers) m.reached.is d in
    ap (λ (z : PassView). z.own.table) c.put_list.ensures ∙ ap (λ (z : PassView). z.own.table) c.publish_commit-at.ensures.published
    ∙ ap (λ (z : PassView). z.own.table) d.is ∙ c.requires.table

pub put_all_noted-requires-clause-held : goal.put_all_noted-requires-clause-held
put_all_noted-requires-clause-held c =
    let z = c.args.shared.now in
    let p = c.args.pass.now in
    let rows = c.args.rows.now.items in
    let tx0 = c.args.tx.value in
    let l = c.args.state in
    let m = c.requires.may in
    let low = m.reached.low in
    let tail = m.reached.tail in
    let e = c.as_slice.ensures.value in
    let q = c.draw_numbers.new.pass in
    let numbers = c.draw_numbers.new.numbers in
    let t = c.deref_mut.ensures.value in
    let lh : Held = with_tail tail (new_held 0 (slot.List l)) in
    let tails : List ℕ = tail ∷ m.first.seen ∷ [] in
    let there : AreHeld p.own.held (Some lh) rows tails undrawn =
    subst (λ (p : PassView). AreHeld p.own.held (Some lh) rows tails undrawn) (sym m.reached.is)
    (held_there z m.first rows tx0 l m.ready m.told low tail m.reached.later m.reached.room) in
    let d : HasDrawn p q (Some lh) rows tails numbers = subst (λ (rows : List TakenRow). HasDrawn p q (Some lh) rows tails numbers) e
    (c.draw_numbers.ensures.drawn (Some lh) tails
    (subst (λ (rows : List TakenRow). AreHeld p.own.held (Some lh) rows tails undrawn) (sym e) there)) in
    let all : numbered numbers ≡ vars_of rows =
    subst (λ (rows : List TakenRow). numbered numbers ≡ vars_of rows) e c.draw_numbers.ensures.all in
    let dp : HasDrawn (with_room m.first l low tail) q (Some lh) rows tails numbers =
    subst (λ (p : PassView). HasDrawn p q (Some lh) rows tails numbers) m.reached.is d in
    let tx : Tx = record { looks = c.deref_mut.result.now.looks; writes = c.deref_mut.result.now.writes; numbers = numbers } in
    let n = c.publish_commit-at.result in
    let r = c.publish_commit-at.new.pass in
    let are : vars_of rows ≡ variables_of tx = m.ready.of ∙ ap (λ (t : Tx). variables_of t) (sym t) in
    let done = committed z.key.setting q r l lh refl rows tails (drew_on p (numbered numbers)) d.held tx n are
    c.publish_commit-at.ensures.published c.put_list.new.pass c.put_list.ensures
    (subst (λ (t : Tx). Rattle.gl_txn.specs.Holding.HaveWrites t.writes rows) (sym t) m.ready.writes)
    (record { thread = c.id.result; write = Rattle.std.proofs.Common.false; commit = Some c.args.vars.now; held = c.monitors.result })
    c.id.ensures.is c.id.ensures.near
    (ap (λ (ys : List ℕ). Some ys) (c.requires.vars ∙ ap (λ (t : Tx). variables_of t) (sym t))) c.monitors.ensures.owned in
    subst (λ k. AreCommitted c.put_list.new.pass rows
    (record { thread = c.id.result; write = Rattle.std.proofs.Common.false; commit = Some c.args.vars.now; held = c.monitors.result }) k)
    (sym (c.seen-behind.ensures ∙ done.seen)) done

pub returns-clause-published : goal.returns-clause-published
returns-clause-published c =
    let z = c.args.shared.now in
    let p = c.args.pass.now in
    let rows = c.args.rows.now.items in
    let tx0 = c.args.tx.value in
    let l = c.args.state in
    let m = c.requires.may in
    let low = m.reached.low in
    let tail = m.reached.tail in
    let e = c.as_slice.ensures.value in
    let q = c.draw_numbers.new.pass in
    let numbers = c.draw_numbers.new.numbers in
    let t = c.deref_mut.ensures.value in
    let lh : Held = with_tail tail (new_held 0 (slot.List l)) in
    let tails : List ℕ = tail ∷ m.first.seen ∷ [] in
    let there : AreHeld p.own.held (Some lh) rows tails undrawn =
    subst (λ (p : PassView). AreHeld p.own.held (Some lh) rows tails undrawn) (sym m.reached.is)
    (held_there z m.first rows tx0 l m.ready m.told low tail m.reached.later m.reached.room) in
    let d : HasDrawn p q (Some lh) rows tails numbers = subst (λ (rows : List TakenRow). HasDrawn p q (Some lh) rows tails numbers) e
    (c.draw_numbers.ensures.drawn (Some lh) tails
    (subst (λ (rows : List TakenRow). AreHeld p.own.held (Some lh) rows tails undrawn) (sym e) there)) in
    let all : numbered numbers ≡ vars_of rows =
    subst (λ (rows : List TakenRow). numbered numbers ≡ vars_of rows) e c.draw_numbers.ensures.all in
    let dp : HasDrawn (with_room m.first l low tail) q (Some lh) rows tails numbers =
    subst (λ (p : PassView). HasDrawn p q (Some lh) rows tails numbers) m.reached.is d in
    let tx : Tx = record { looks = c.deref_mut.result.now.looks; writes = c.deref_mut.result.now.writes; numbers = numbers } in
    let n = c.publish_commit-at.result in
    let r = c.publish_commit-at.new.pass in
    let are : vars_of rows ≡ variables_of tx = m.ready.of ∙ ap (λ (t : Tx). variables_of t) (sym t) in
    record {
      ended = tx;
      looks = ap (λ (t : Tx). t.looks) t;
      writes = ap (λ (t : Tx). t.writes) t;
      is = published_is z.key.setting q r l lh refl rows tails (drew_on p (numbered numbers)) d.held tx n are
          c.publish_commit-at.ensures.published c.put_list.new.pass c.put_list.ensures p c.put_all_noted.new.pass numbers d.is
          c.put_all_noted.ensures.pass;
    }

pub returns-clause-here : goal.returns-clause-here
returns-clause-here c =
    let z = c.args.shared.now in
    let p = c.args.pass.now in
    let rows = c.args.rows.now.items in
    let tx0 = c.args.tx.value in
    let l = c.args.state in
    let m = c.requires.may in
    let low = m.reached.low in
    let tail = m.reached.tail in
    let e = c.as_slice.ensures.value in
    let q = c.draw_numbers.new.pass in
    let numbers = c.draw_numbers.new.numbers in
    let t = c.deref_mut.ensures.value in
    let lh : Held = with_tail tail (new_held 0 (slot.List l)) in
    let tails : List ℕ = tail ∷ m.first.seen ∷ [] in
    let there : AreHeld p.own.held (Some lh) rows tails undrawn =
    subst (λ (p : PassView). AreHeld p.own.held (Some lh) rows tails undrawn) (sym m.reached.is)
    (held_there z m.first rows tx0 l m.ready m.told low tail m.reached.later m.reached.room) in
    let d : HasDrawn p q (Some lh) rows tails numbers = subst (λ (rows : List TakenRow). HasDrawn p q (Some lh) rows tails numbers) e
    (c.draw_numbers.ensures.drawn (Some lh) tails
    (subst (λ (rows : List TakenRow). AreHeld p.own.held (Some lh) rows tails undrawn) (sym e) there)) in
    let all : numbered numbers ≡ vars_of rows =
    subst (λ (rows : List TakenRow). numbered numbers ≡ vars_of rows) e c.draw_numbers.ensures.all in
    let dp : HasDrawn (with_room m.first l low tail) q (Some lh) rows tails numbers =
    subst (λ (p : PassView). HasDrawn p q (Some lh) rows tails numbers) m.reached.is d in
    let at = c.publish_commit-at.ensures.here in
    let s = ap (λ (z : PassView). z.seen) d.is in
    at ∙ s
