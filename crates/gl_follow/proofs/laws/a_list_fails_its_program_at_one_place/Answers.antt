use Rattle.gl_follow.proofs.Beginnings.{beginnings, one_length, runs_or_fails}
use Rattle.gl_follow.proofs.laws.a_list_fails_its_program_at_one_place.Goals as goal

pub returns-clause-beginnings : goal.returns-clause-beginnings
returns-clause-beginnings c = beginnings

pub returns-clause-one_length : goal.returns-clause-one_length
returns-clause-one_length c = one_length

pub returns-clause-apart : goal.returns-clause-apart
returns-clause-apart c = runs_or_fails
