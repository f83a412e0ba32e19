use Rattle.std.proofs.Common.{◌≡◌, sym, subst, ◌∙◌}
use Rattle.std.specs.Prelude.{◌⊎◌}
use Rattle.gl_model.specs.declared.row.Info.{Info}
use Rattle.gl_draws.specs.RowFacts.{IsWithin}
use Rattle.gl_judge.specs.Asked.{IsRowFrom}
use Rattle.gl_rule.specs.Values.{InRow}
use Rattle.gl_table.specs.PassView.{shelf_of}
use Rattle.gl_rule.proofs.Agreeing.{events_agree}
use Rattle.gl_rows.proofs.Windows.{row_from, window_of, has_walked}
use Rattle.gl_rows.proofs.checking.walked.Goals as goal

pub judge-requires-clause-within : goal.judge-requires-clause-within
judge-requires-clause-within g c =
    subst (λ w. IsRowFrom c.least-from.result w c.args.row.now) (sym c.as_slice.ensures.value)
    (row_from c.least-from.result c.seen-end.result c.load.new.window.items c.args.row.now c.load.ensures.ends c.least-from.ensures.below
    (subst (IsWithin c.args.row.now) (sym c.seen-end.ensures) c.requires.within))

pub returns-clause-pass : goal.returns-clause-pass
returns-clause-pass g c = has_walked c.args.row.now c.least-from.result c.args.pass.now.seen c.load.new.window.items c.args.pass.now
    c.load.new.pass c.load.ensures.pass (c.load.ensures.ends ∙ c.seen-end.ensures)
    (subst (λ n. (c.least-from.result ≡ n) ⊎ ((i : Info) × InRow c.args.row.now i × (i.pos ≡ c.least-from.result))) c.seen-end.ensures
    c.least-from.ensures.named)

pub returns-clause-race : goal.returns-clause-race
returns-clause-race g c = λ setting l fits next stand.
    let window = window_of c.least-from.result c.load.new.window.items c.args.pass.now c.load.new.pass c.load.ensures.pass
    (c.load.ensures.ends ∙ c.seen-end.ensures) in
    c.judge.ensures.fails setting l (
      events_agree setting (shelf_of c.load.new.pass) c.load.new.pass.seen c.load.new.pass.known
          c.least-from.result c.load.new.window.items window l fits ∙ sym c.as_slice.ensures.value,
      next,
    ) stand
