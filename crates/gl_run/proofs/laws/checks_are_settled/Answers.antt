use Rattle.gl_run.proofs.OneAnswer.{checks_apart, checks_one}
use Rattle.gl_run.proofs.laws.checks_are_settled.Goals as goal

pub returns-clause-one : goal.returns-clause-one
returns-clause-one c =
    let meaning = c.one_meaning.ensures in
    checks_one c.verdicts_of_traces.ensures.settled meaning.apart meaning.faults meaning.traces c.traces_are_clean.ensures.range
    c.traces_are_clean.ensures.clean

pub returns-clause-apart : goal.returns-clause-apart
returns-clause-apart c =
    let meaning = c.one_meaning.ensures in
    checks_apart c.verdicts_of_traces.ensures.settled meaning.apart meaning.faults meaning.traces c.traces_are_clean.ensures.range
    c.traces_are_clean.ensures.clean
