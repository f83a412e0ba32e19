use Rattle.std.proofs.Common.{◌≡◌, sym, ap, subst, refl, rules, FitsSigned, w64, [], ◌∷◌}
use Rattle.std.proofs.lemmas.Int.{to_z-of_z}
use Rattle.gl_model.specs.declared.tx.Tx.{Tx}
use Rattle.gl_model.specs.declared.tx.Why.TheVariants.{Changed}
use Rattle.gl_model.specs.Entries.{Abort}
use Rattle.gl_table.specs.PassView.{after_adding}
use Rattle.gl_table.specs.Putting.{MayAbort}
use Rattle.gl_txn.specs.Drawing.{attempt_in}
use Rattle.gl_txn.proofs.Drops.{change_near, change_open, change_drawn, may_change, change_unused, change_stored, tx_is}
use Rattle.gl_txn.proofs.dropping.drop_changed.Goals as goal

pub mark_open-nth-requires-clause-near : goal.mark_open-nth-requires-clause-near
mark_open-nth-requires-clause-near c = change_near (attempt_in c.args.tx.value) c.args.tx.value.writes c.args.pass.now
    c.args.rows.now.items c.args.change.now c.requires.may c.requires.held c.requires.draws c.requires.change

pub mark_open-nth-requires-clause-may : goal.mark_open-nth-requires-clause-may
mark_open-nth-requires-clause-may c = change_open (attempt_in c.args.tx.value) c.args.tx.value.writes c.args.pass.now c.args.rows.now.items
    c.args.change.now c.requires.may c.requires.held c.requires.draws c.requires.change

pub add-requires-clause-there : goal.add-requires-clause-there
add-requires-clause-there c = change_near (attempt_in c.args.tx.value) c.args.tx.value.writes c.args.pass.now c.args.rows.now.items
    c.args.change.now c.requires.may c.requires.held c.requires.draws c.requires.change

pub abort-requires-clause-may : goal.abort-requires-clause-may
abort-requires-clause-may c =
    let k = c.args.change.now in
    let fits : FitsSigned w64 c.args.change.now.read = search rules in
    let fits2 : FitsSigned w64 c.args.change.now.found = search rules in
    let t = tx_is c.args.tx.value c.deref_mut.result.now c.add.new.numbers (record { var = k.var; nth = c.mark_open-nth.result })
    c.deref_mut.ensures.value c.requires.none c.add.ensures in
    simp to_z-of_z (subst (λ (t : Tx). MayAbort c.mark_open-nth.new.pass t (Changed k.var k.read k.found)) (sym t)
    (may_change (attempt_in c.args.tx.value) c.args.tx.value.writes c.args.pass.now c.args.rows.now.items k c.requires.may c.requires.held
    c.requires.draws c.requires.change c.requires.of c.requires.looks c.mark_open-nth.new.pass c.mark_open-nth.result
    (change_drawn (attempt_in c.args.tx.value) c.args.tx.value.writes c.args.pass.now c.args.rows.now.items k c.requires.may
    c.requires.held c.requires.draws c.requires.change c.mark_open-nth.new.pass c.mark_open-nth.result c.mark_open-nth.ensures.opened
    c.mark_open-nth.ensures.above)))

pub put_rows-requires-clause-held : goal.put_rows-requires-clause-held
put_rows-requires-clause-held c =
    let k = c.args.change.now in
    let fits : FitsSigned w64 c.args.change.now.read = search rules in
    let fits2 : FitsSigned w64 c.args.change.now.found = search rules in
    let tx : Tx = record { looks = c.deref_mut.result.now.looks; writes = c.deref_mut.result.now.writes; numbers = c.add.new.numbers } in
    let added : c.abort.new.self ≡ after_adding c.mark_open-nth.new.pass (Abort tx (Changed k.var k.read k.found)) =
    simp to_z-of_z at c.abort.ensures in
    let d = change_drawn (attempt_in c.args.tx.value) c.args.tx.value.writes c.args.pass.now c.args.rows.now.items k c.requires.may
    c.requires.held c.requires.draws c.requires.change c.mark_open-nth.new.pass c.mark_open-nth.result c.mark_open-nth.ensures.opened
    c.mark_open-nth.ensures.above in
    change_unused c.args.pass.now c.mark_open-nth.new.pass c.args.rows.now.items [] (record { var = k.var; nth = c.mark_open-nth.result }
    ∷ []) (k.var ∷ []) refl d tx k.var k.read k.found refl c.abort.new.self added

pub returns-clause-dropped : goal.returns-clause-dropped
returns-clause-dropped c =
    let k = c.args.change.now in
    let fits : FitsSigned w64 c.args.change.now.read = search rules in
    let fits2 : FitsSigned w64 c.args.change.now.found = search rules in
    let tx : Tx = record { looks = c.deref_mut.result.now.looks; writes = c.deref_mut.result.now.writes; numbers = c.add.new.numbers } in
    let added : c.abort.new.self ≡ after_adding c.mark_open-nth.new.pass (Abort tx (Changed k.var k.read k.found)) =
    simp to_z-of_z at c.abort.ensures in
    let d = change_drawn (attempt_in c.args.tx.value) c.args.tx.value.writes c.args.pass.now c.args.rows.now.items k c.requires.may
    c.requires.held c.requires.draws c.requires.change c.mark_open-nth.new.pass c.mark_open-nth.result c.mark_open-nth.ensures.opened
    c.mark_open-nth.ensures.above in
    record {
      ended = tx;
      looks = ap (λ (t : Tx). t.looks) c.deref_mut.ensures.value;
      writes = ap (λ (t : Tx). t.writes) c.deref_mut.ensures.value;
      is = change_stored c.args.pass.now c.mark_open-nth.new.pass c.args.rows.now.items []
          (record { var = k.var; nth = c.mark_open-nth.result } ∷ []) (k.var ∷ []) refl d tx k.var k.read k.found c.abort.new.self
          c.put_rows.new.pass added c.put_rows.ensures.pass;
    }
