use Rattle.gl_run.proofs.OneAudit.{audits_apart, audits_exact, audits_one}
use Rattle.gl_run.proofs.laws.audits_are_settled.Goals as goal

pub returns-clause-one : goal.returns-clause-one
returns-clause-one c =
    let meaning = c.one_meaning.ensures in
    audits_one meaning.apart meaning.faults meaning.texts c.one_finding.ensures.finding

pub returns-clause-apart : goal.returns-clause-apart
returns-clause-apart c =
    let meaning = c.one_meaning.ensures in
    audits_apart meaning.apart meaning.faults meaning.texts c.one_finding.ensures.finding

pub returns-clause-exact : goal.returns-clause-exact
returns-clause-exact c =
    let meaning = c.one_meaning.ensures in
    audits_exact meaning.apart meaning.faults meaning.texts c.one_finding.ensures.finding
