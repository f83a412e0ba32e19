use Rattle.gl_lines.proofs.TraceRecordRaces.{record_races}
use Rattle.gl_lines.proofs.TraceWhole.{whole_law}
use Rattle.gl_lines.proofs.laws.records_of_traces.Goals as goal

pub returns-clause-races : goal.returns-clause-races
returns-clause-races c = record_races

pub returns-clause-whole : goal.returns-clause-whole
returns-clause-whole c = whole_law
