use Rattle.std.proofs.Common.{◌≡◌, ◌∙◌, ◌-◌, List, length, ◌+◌, arith, sym, ap, subst, Some, false}
use Rattle.std.specs.Prelude.{slice_get}
use Rattle.std.proofs.lemmas.List.{length-map}
use Rattle.gl_model.specs.TraceSteps.{is_too_wide}
use Rattle.gl_explain.specs.declared.told.Told.{Told}
use Rattle.gl_explain.specs.Told.{told_of}
use Rattle.gl_explain.proofs.Behind.{told}
use Rattle.gl_picture.specs.Arrows.{AreNarrow}
use Rattle.gl_picture.specs.Drawn.{IsDrawn, IsPicture, left_out_of, span}
use Rattle.gl_picture.specs.declared.picture.TheConstants.{LEAD, HALF}
use Rattle.gl_picture.proofs.Drawing.{rows_are, if_ok, span_map, each_drawn, each_spanned, place_before, race_within, other_drawn, race_drawn, IsEnd}
use Rattle.gl_picture.proofs.drawn.picture_of.Goals as goal

pub span-lines-requires : goal.span-lines-requires
span-lines-requires c =
    let told' = told_of c.args.kept.now in
    let before = place_before told' c.args.first.now c.requires.first in
    let within = race_within told' c.args.first.now c.requires.first in
    let long : length told' ≡ length c.args.kept.now = length-map c.args.kept.now told in
    (omega arith, omega arith)

pub drawn-requires-clause-narrow : goal.drawn-requires-clause-narrow
drawn-requires-clause-narrow c =
    let told' = told_of c.args.kept.now in
    let f = c.args.first.now in
    let P : Told → Type 0 = λ k. is_too_wide k.item ≡ false in
    let is = rows_are c.args.kept.now f c.span-lines.result.now c.deref.result.now c.span-lines.ensures
    (c.deref.ensures.value ∙ c.in_ok-rows.ensures.rows) in
    subst AreNarrow (sym is) (each_drawn P (span f.explanation.place f.race told') (each_spanned P f.explanation.place f.race told'
    c.requires.narrow))

pub drawn-requires-clause-last : goal.drawn-requires-clause-last
drawn-requires-clause-last c =
    let told' = told_of c.args.kept.now in
    let f = c.args.first.now in
    let is = rows_are c.args.kept.now f c.span-lines.result.now c.deref.result.now c.span-lines.ensures
    (c.deref.ensures.value ∙ c.in_ok-rows.ensures.rows) in
    let end = subst (IsEnd f.explanation.at) (sym is) (race_drawn told' f c.requires.first) in
    let some = end.0 in
    let long = c.deref.ensures.len in
    let len = c.len.ensures in
    omega arith

pub returns : goal.returns
returns c =
    let told' = told_of c.args.kept.now in
    let f = c.args.first.now in
    let e = f.explanation in
    let place = e.place in
    let rows = c.deref.result.now in
    let is = rows_are c.args.kept.now f c.span-lines.result.now rows c.span-lines.ensures
    (c.deref.ensures.value ∙ c.in_ok-rows.ensures.rows) in
    let end = subst (IsEnd e.at) (sym is) (race_drawn told' f c.requires.first) in
    let other = subst (λ rs. slice_get rs (place - (place - LEAD)) ≡ Some e.other) (sym is) (other_drawn told' f c.requires.first) in
    let long : length (told_of c.span-lines.result.now) ≡ length c.span-lines.result.now = length-map c.span-lines.result.now told in
    let spanned : told_of c.span-lines.result.now ≡ span place f.race told' = ap told_of c.span-lines.ensures ∙ span_map told place f.race
    c.args.kept.now in
    let left : c.saturating_sub-left_out.result ≡ left_out_of (span place f.race told') = c.saturating_sub-left_out.ensures
    ∙ ap (λ n. n - (HALF + HALF)) (sym long) ∙ ap (λ (ls : List Told). left_out_of ls) spanned in
    let last : c.len.result - 1 ≡ length rows - 1 = (let long' = c.deref.ensures.len in let len = c.len.ensures in omega arith) in
    let start : place - c.saturating_sub.result ≡ place - (place - LEAD) = ap (λ n. place - n) c.saturating_sub.ensures in
    if_ok (IsDrawn rows c.saturating_sub-left_out.result e) (IsPicture told' f) c.drawn.result
    (λ p drawn. subst (λ rs. IsDrawn rs (left_out_of (span place f.race told')) e p) is (subst (λ n. IsDrawn rows n e p) left drawn))
    (c.drawn.ensures e (subst (λ n. slice_get rows n ≡ Some e.other) (sym start) other) (subst (λ n. slice_get rows n ≡ Some e.at)
    (sym last) end.1))
