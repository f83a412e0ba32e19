use Rattle.std.proofs.Common.{[]}
use Rattle.gl_core.proofs.Lent.{followed_first}
use Rattle.gl_core.proofs.detector.Detector.new.Goals as goal

pub returns-clause-follows : goal.returns-clause-follows
returns-clause-follows c = followed_first c.take_act.new.self c.in_ok-latests.latests.items
    (c.take_act.ensures.clocks [] c.in_ok-tables.ensures.1) c.in_ok-latests.ensures.items
