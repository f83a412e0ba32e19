use Rattle.gl_audit.proofs.Seven.{by_seven}
use Rattle.gl_audit.proofs.laws.lawful_is_seven_clauses.Goals as goal

pub returns : goal.returns
returns c = by_seven
