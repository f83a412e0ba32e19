use Rattle.std.proofs.Common.{sym, ◌∙◌}
use Rattle.gl_audited.proofs.CutLines.{cut_on}
use Rattle.gl_audited.proofs.cut.cut_text.Goals as goal

pub loop-at-preserved : goal.loop-at-preserved
loop-at-preserved c =
    cut_on c.args.text.now _ c.loop-at.at c.loop-at.lines c.line_len-at.result c.parts_at.ensures.after c.loop-at.invariant
    c.loop-at-test.true
    (sym c.starts_record.ensures ∙ c.if-starts_record.false) c.line_len-at.ensures
