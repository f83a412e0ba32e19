use Rattle.std.proofs.Common.{◌≡◌, ◌<◌, ◌∙◌, Some, ap, sym, length, arith}
use Rattle.std.specs.Prelude.{slice_get}
use Rattle.std.proofs.lemmas.Option.{slice_get-get_or}
use Rattle.gl_names.specs.Names.{name_of}
use Rattle.gl_pages.specs.Texts.{explanation_text}
use Rattle.gl_pages.proofs.Pieces.{one_piece}
use Rattle.gl_pages.proofs.text.push_all.Goals as goal

pub loop-e-preserved : goal.loop-e-preserved
loop-e-preserved c =
    let es = c.args.explained.now in
    let n = c.loop-e.e-index in
    let less : n < length es = omega arith in
    let there : slice_get es n ≡ Some c.e-item.result = slice_get-get_or es n _ less ∙ ap Some (sym c.e-item.is) in
    one_piece (explanation_text (name_of c.args.names.now)) es n c.e-item.result c.args.out.now.items c.loop-e.out.items
    c.push_explanation.new.out.items there c.loop-e.invariant
    c.in_ok-push_explanation.ensures
