use Rattle.std.proofs.Common.{◌≡◌, ◌<◌, sym, ap, ◌∙◌, subst, refl, List, [], ◌∷◌, None}
use Rattle.gl_model.specs.declared.tx.Tx.{Tx}
use Rattle.gl_model.specs.declared.tx.Why.TheVariants.{Raised}
use Rattle.gl_model.specs.Records.{variables_of}
use Rattle.gl_table.specs.PassView.{PassView}
use Rattle.gl_table.specs.Putting.{MayAbort}
use Rattle.gl_txn.specs.Drawing.{HasDrawn, numbered}
use Rattle.gl_txn.specs.Holding.{AreHeld, undrawn, vars_of}
use Rattle.gl_txn.specs.declared.taken.TakenRow.{TakenRow}
use Rattle.gl_txn.proofs.Drops.{raise_unused, raise_stored}
use Rattle.gl_txn.proofs.Refusals.{may_refuse}
use Rattle.gl_txn.proofs.dropping.drop_raised.Goals as goal

pub abort-requires-clause-may : goal.abort-requires-clause-may
abort-requires-clause-may c =
    let p = c.args.pass.now in
    let q = c.draw_numbers.new.pass in
    let rows = c.args.rows.now.items in
    let numbers = c.draw_numbers.new.numbers in
    let e = c.as_slice.ensures.value in
    let races = c.requires.raised in
    let d : HasDrawn p q None rows (p.seen ∷ []) numbers = subst (λ (rows : List TakenRow). HasDrawn p q None rows (p.seen ∷ []) numbers) e
    (c.draw_numbers.ensures.drawn None (p.seen ∷ [])
    (subst (λ (rows : List TakenRow). AreHeld p.own.held None rows (p.seen ∷ []) undrawn) (sym e) races.held)) in
    let all : numbered numbers ≡ vars_of rows =
    subst (λ (rows : List TakenRow). numbered numbers ≡ vars_of rows) e c.draw_numbers.ensures.all in
    let t = c.deref_mut.ensures.value in
    subst (λ (t : Tx). MayAbort q (record { looks = t.looks; writes = t.writes; numbers = numbers }) (Raised c.args.var)) (sym t)
    (may_refuse c.args.tx.value p q rows c.args.var numbers c.requires.draws races d all c.requires.may.runs)

pub abort-requires-clause-spare : goal.abort-requires-clause-spare
abort-requires-clause-spare c =
    let p = c.args.pass.now in
    let q = c.draw_numbers.new.pass in
    let rows = c.args.rows.now.items in
    let numbers = c.draw_numbers.new.numbers in
    let e = c.as_slice.ensures.value in
    let races = c.requires.raised in
    let d : HasDrawn p q None rows (p.seen ∷ []) numbers = subst (λ (rows : List TakenRow). HasDrawn p q None rows (p.seen ∷ []) numbers) e
    (c.draw_numbers.ensures.drawn None (p.seen ∷ [])
    (subst (λ (rows : List TakenRow). AreHeld p.own.held None rows (p.seen ∷ []) undrawn) (sym e) races.held)) in
    let all : numbered numbers ≡ vars_of rows =
    subst (λ (rows : List TakenRow). numbered numbers ≡ vars_of rows) e c.draw_numbers.ensures.all in
    let t = c.deref_mut.ensures.value in
    subst (λ (z : PassView). 0 < z.spare) (sym d.is) c.requires.spare

pub put_rows-requires-clause-table : goal.put_rows-requires-clause-table
put_rows-requires-clause-table c =
    let p = c.args.pass.now in
    let q = c.draw_numbers.new.pass in
    let rows = c.args.rows.now.items in
    let numbers = c.draw_numbers.new.numbers in
    let e = c.as_slice.ensures.value in
    let races = c.requires.raised in
    let d : HasDrawn p q None rows (p.seen ∷ []) numbers = subst (λ (rows : List TakenRow). HasDrawn p q None rows (p.seen ∷ []) numbers) e
    (c.draw_numbers.ensures.drawn None (p.seen ∷ [])
    (subst (λ (rows : List TakenRow). AreHeld p.own.held None rows (p.seen ∷ []) undrawn) (sym e) races.held)) in
    let all : numbered numbers ≡ vars_of rows =
    subst (λ (rows : List TakenRow). numbered numbers ≡ vars_of rows) e c.draw_numbers.ensures.all in
    let t = c.deref_mut.ensures.value in
    ap (λ (z : PassView). z.own.table) c.abort.ensures ∙ ap (λ (z : PassView). z.own.table) d.is ∙ c.requires.table

pub put_rows-requires-clause-held : goal.put_rows-requires-clause-held
put_rows-requires-clause-held c =
    let p = c.args.pass.now in
    let q = c.draw_numbers.new.pass in
    let rows = c.args.rows.now.items in
    let numbers = c.draw_numbers.new.numbers in
    let e = c.as_slice.ensures.value in
    let races = c.requires.raised in
    let d : HasDrawn p q None rows (p.seen ∷ []) numbers = subst (λ (rows : List TakenRow). HasDrawn p q None rows (p.seen ∷ []) numbers) e
    (c.draw_numbers.ensures.drawn None (p.seen ∷ [])
    (subst (λ (rows : List TakenRow). AreHeld p.own.held None rows (p.seen ∷ []) undrawn) (sym e) races.held)) in
    let all : numbered numbers ≡ vars_of rows =
    subst (λ (rows : List TakenRow). numbered numbers ≡ vars_of rows) e c.draw_numbers.ensures.all in
    let t = c.deref_mut.ensures.value in
    let tx : Tx = record { looks = c.deref_mut.result.now.looks; writes = c.deref_mut.result.now.writes; numbers = numbers } in
    let are : numbered numbers ≡ variables_of tx = all ∙ races.of ∙ ap (λ (t : Tx). variables_of t) (sym t) in
    raise_unused p q rows (p.seen ∷ []) numbers (variables_of tx) are d tx c.args.var refl c.abort.new.self c.abort.ensures

pub returns-clause-dropped : goal.returns-clause-dropped
returns-clause-dropped c =
    let p = c.args.pass.now in
    let q = c.draw_numbers.new.pass in
    let rows = c.args.rows.now.items in
    let numbers = c.draw_numbers.new.numbers in
    let e = c.as_slice.ensures.value in
    let races = c.requires.raised in
    let d : HasDrawn p q None rows (p.seen ∷ []) numbers = subst (λ (rows : List TakenRow). HasDrawn p q None rows (p.seen ∷ []) numbers) e
    (c.draw_numbers.ensures.drawn None (p.seen ∷ [])
    (subst (λ (rows : List TakenRow). AreHeld p.own.held None rows (p.seen ∷ []) undrawn) (sym e) races.held)) in
    let all : numbered numbers ≡ vars_of rows =
    subst (λ (rows : List TakenRow). numbered numbers ≡ vars_of rows) e c.draw_numbers.ensures.all in
    let t = c.deref_mut.ensures.value in
    let tx : Tx = record { looks = c.deref_mut.result.now.looks; writes = c.deref_mut.result.now.writes; numbers = numbers } in
    let are : numbered numbers ≡ variables_of tx = all ∙ races.of ∙ ap (λ (t : Tx). variables_of t) (sym t) in
    record {
      ended = tx;
      looks = ap (λ (t : Tx). t.looks) t;
      writes = ap (λ (t : Tx). t.writes) t;
      is = raise_stored p q rows (p.seen ∷ []) numbers (variables_of tx) are d tx c.args.var c.abort.new.self c.put_rows.new.pass
          c.abort.ensures c.put_rows.ensures.pass;
    }
