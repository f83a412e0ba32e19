use Rattle.std.proofs.Common.{◌<◌, ◌≡◌, ◌∙◌, sym, subst, length, get_or, rules, arith}
use Rattle.std.proofs.lemmas.List.{get_or_default}
use Rattle.gl_model.specs.declared.row.Row.{Row}
use Rattle.gl_judge.specs.Noted.{IsNoted}
use Rattle.gl_compare.specs.Rows.{untouched, row_of}
use Rattle.gl_compare.proofs.RowSets.{row_here, row_else}
use Rattle.gl_compare.proofs.Within.{rows_within}
use Rattle.gl_compare.proofs.rows.note_in.Goals as goal

pub returns-clause-noted : goal.returns-clause-noted
returns-clause-noted c =
    let enough = c.in_ok-make_rows.ensures.enough in
    let rows = c.make_rows.new.rows.items in
    let near : c.args.var < length c.make_rows.new.rows.items = omega arith in
    let lent : c.index_mut.result.now ≡ get_or c.make_rows.new.rows.items c.args.var c.index_mut.result.now = search rules in
    let was : row_of c.args.rows.now.items c.args.var ≡ c.index_mut.result.now = sym (c.in_ok-make_rows.ensures.same c.args.var)
    ∙ get_or_default rows c.args.var untouched c.index_mut.result.now near ∙ sym lent in
    subst (λ (r : Row). IsNoted r c.args.q.now c.args.pos (row_of (Rattle.std.proofs.Common.set rows c.args.var c.note.new.row) c.args.var))
    (sym was)
    (subst (IsNoted c.index_mut.result.now c.args.q.now c.args.pos) (sym (row_here rows c.args.var c.note.new.row near)) c.note.ensures)

pub returns-clause-others : goal.returns-clause-others
returns-clause-others c y other = row_else c.make_rows.new.rows.items c.args.var y c.note.new.row other ∙ c.in_ok-make_rows.ensures.same y

pub returns-clause-within : goal.returns-clause-within
returns-clause-within c =
    let enough = c.in_ok-make_rows.ensures.enough in
    let near : c.args.var < length c.make_rows.new.rows.items = omega arith in
    λ n le old. rows_within n c.args.pos c.args.var c.make_rows.new.rows.items c.index_mut.result.now c.note.new.row c.args.q.now le
    (c.in_ok-make_rows.ensures.within n old) near (search rules) c.note.ensures
