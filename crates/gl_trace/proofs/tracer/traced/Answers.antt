use Rattle.std.proofs.Common.{◌≡◌, ◌+◌, ◌*◌, ◌<◌, ◌∙◌, ◌∷◌, length, drop, map, get_or, arith, ap, subst, sym}
use Rattle.gl_model.specs.Trace.{after_lines, with_item}
use Rattle.gl_model.specs.declared.row.Judged.TheVariants.{NoAccess}
use Rattle.gl_trace.specs.Judging.{judged_lines, line_of}
use Rattle.gl_trace.specs.TraceLine.{TraceLine}
use Rattle.gl_trace.proofs.TracerLemmas.{IsLineAt, line_at, lines_left}
use Rattle.gl_trace.proofs.tracer.traced.Goals as goal

at : (c : goal.After-item-arg-1) → IsLineAt c.index-lines-i.result (get_or c.args.judged.now c.loop-i.i NoAccess)
at c =
    let line : TraceLine = c.index-lines-i.result in
    let same : line ≡ get_or c.args.trace.now c.loop-i.i line = c.index-lines-i.is
    ∙ ap (λ l. get_or l c.loop-i.i line) c.lines-lines.ensures in
    let below : c.loop-i.i < length c.args.trace.now = omega (arith, c.loop-i-test.true, ap length c.lines-lines.ensures) in
    subst (λ (l : TraceLine). IsLineAt l (get_or c.args.judged.now c.loop-i.i NoAccess)) (sym same)
    (line_at c.args.trace.now c.args.judged.now c.keeps.ensures c.requires c.loop-i.i line NoAccess below)

pub item-requires-clause-thread : goal.item-requires-clause-thread
item-requires-clause-thread c = (at c).thread

pub item-requires-clause-item : goal.item-requires-clause-item
item-requires-clause-item c = (at c).item

pub item-requires-clause-few : goal.item-requires-clause-few
item-requires-clause-few c = (at c).few

pub item-requires-clause-suits : goal.item-requires-clause-suits
item-requires-clause-suits c = (at c).suits

pub loop-i-preserved : goal.loop-i-preserved
loop-i-preserved c =
    let lines = c.lines-lines.result.now in
    let judged = c.args.judged.now in
    let k = c.loop-i.i in
    let line : TraceLine = c.index-lines-i.result in
    let said = get_or judged k NoAccess in
    let before = c.loop-i.invariant.0 in
    let rest = judged_lines (drop (k + 1) lines) (drop (k + 1) judged) in
    let count : length judged ≡ length lines = c.requires.count ∙ ap length (sym c.lines-lines.ensures) in
    let left : judged_lines (drop k lines) (drop k judged) ≡ (line, said) ∷ rest =
    lines_left lines judged count k line NoAccess c.loop-i-test.true ∙ ap (λ (l : TraceLine). (l, said) ∷ rest) (sym c.index-lines-i.is)
    in (
      (
        with_item line.1 line.2 said before.0,
        c.in_ok-item.ensures.traces before.0 before.1,
        sym (ap (λ l. after_lines (map line_of l) before.0) left) ∙ before.2,
      ),
      c.in_ok-item.ensures.most (2 * k + 1) (2 * (k + 1) + 1) (omega arith) c.loop-i.invariant.1,
    )
