use Rattle.gl_run.proofs.OneProgram.{replies_one, replies_told}
use Rattle.gl_run.proofs.laws.answers_are_settled.Goals as goal

pub returns-clause-one : goal.returns-clause-one
returns-clause-one c =
    let programs = c.programs_are_settled.ensures in
    let audits = c.audits_are_settled.ensures.one in
    replies_one c.checks_are_settled.ensures.one programs.listings audits programs.runs c.loads_are_settled.ensures.told

pub returns-clause-told : goal.returns-clause-told
returns-clause-told c =
    let programs = c.programs_are_settled.ensures in
    let audits = c.audits_are_settled.ensures.one in
    replies_told c.checks_are_settled.ensures.one programs.listings audits programs.runs c.loads_are_settled.ensures.told
