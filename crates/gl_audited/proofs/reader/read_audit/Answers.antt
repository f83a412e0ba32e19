use Rattle.gl_audited.proofs.Meanings.{told_of_record}
use Rattle.gl_audited.proofs.reader.read_audit.Goals as goal

pub returns-in-Err-clause-fault : goal.returns-in-Err-clause-fault
returns-in-Err-clause-fault c =
    told_of_record c.args.text.now _ _ c.cut_text-cut.result.at c.cut_text-cut.result.lines _ _ c.in-Err.error c.parts_at.ensures.before
    c.parts_at.ensures.after c.if-text-gt-AUDIT_BYTES.false c.cut_text-cut.ensures.at c.cut_text-cut.ensures.lines
    c.in_ok-assembled.ensures.ok c.in-Err.ensures.fault
