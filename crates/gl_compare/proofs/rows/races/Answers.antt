use Rattle.gl_compare.proofs.RowSets.{none_there, row_there}
use Rattle.gl_compare.proofs.rows.races.Goals as goal

pub returns-in-None : goal.returns-in-None
returns-in-None c = none_there c.args.events.now c.args.rows.now c.args.var c.args.q.now c.in-None.ensures.lookup.0

pub returns-in-Some : goal.returns-in-Some
returns-in-Some c = row_there c.args.events.now c.args.rows.now c.args.var c.in-Some.row.now c.args.q.now c.is_race.result
    c.in-Some.ensures.lookup.0 c.in-Some.ensures.lookup.1 c.is_race.ensures
