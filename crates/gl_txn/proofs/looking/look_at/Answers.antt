use Rattle.gl_table.proofs.Doing.{holds_none}
use Rattle.std.proofs.Common.{FitsSigned, w64, rules, refl, sym, ap, ◌∙◌, ◌≡◌, Some, suc}
use Rattle.std.proofs.lemmas.Int.{to_z-of_z}
use Rattle.gl_model.specs.declared.row.Row.{Row}
use Rattle.gl_table.specs.PassView.{PassView}
use Rattle.gl_table.specs.Putting.{opened}
use Rattle.gl_txn.proofs.LookSteps.{may_look, may_put_looked, after_look}
use Rattle.gl_txn.proofs.looking.look_at.Goals as goal

pub mark_open-nth-requires-clause-may : goal.mark_open-nth-requires-clause-may
mark_open-nth-requires-clause-may c =
    let fits : FitsSigned w64 c.row.result.now.value = search rules in
    simp to_z-of_z (may_look c.args.pass.now c.args.var c.in-Ok.kept c.row.result.now.value (ap (λ (r : Row). r.value) c.row.ensures)
    c.requires.held c.requires.owed c.requires.few c.requires.runs c.requires.room c.take_row.new.pass c.in-Ok.ensures.ok)

pub put_row-requires-clause-may : goal.put_row-requires-clause-may
put_row-requires-clause-may c =
    let fits : FitsSigned w64 c.row.result.now.value = search rules in
    let is : c.mark_open-nth.new.pass ≡ opened c.take_row.new.pass c.args.var c.mark_open-nth.result (Some c.row.result.now.value) =
    simp to_z-of_z at c.mark_open-nth.ensures.opened in
    may_put_looked c.args.shared.now.key.setting c.args.pass.now c.args.var c.in-Ok.kept c.mark_open-nth.result c.row.result.now.value
    c.requires.held c.mark_open-nth.new.pass
    (is ∙ ap (λ (p : PassView). opened p c.args.var c.mark_open-nth.result (Some c.row.result.now.value)) c.in-Ok.ensures.ok)

pub returns-clause-look : goal.returns-clause-look
returns-clause-look c =
    let fits : FitsSigned w64 c.row.result.now.value = search rules in
    let is : c.mark_open-nth.new.pass ≡ opened c.take_row.new.pass c.args.var c.mark_open-nth.result (Some c.row.result.now.value) =
    simp to_z-of_z at c.mark_open-nth.ensures.opened in
    let whole = after_look c.args.pass.now c.args.var c.in-Ok.kept c.mark_open-nth.result c.row.result.now.value c.requires.held
    c.mark_open-nth.new.pass c.put_row.new.pass
    (is ∙ ap (λ (p : PassView). opened p c.args.var c.mark_open-nth.result (Some c.row.result.now.value)) c.in-Ok.ensures.ok)
    c.put_row.ensures in
    (c.in-Ok.kept, refl, simp to_z-of_z (sym (ap (λ (r : Row). r.value) c.row.ensures)), simp to_z-of_z whole)

pub take_row-requires-clause-free : goal.take_row-requires-clause-free
take_row-requires-clause-free c = holds_none c.args.pass.now.own.held (suc c.args.var) c.requires.held
