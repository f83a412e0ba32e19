use Rattle.std.proofs.Common.{map}
use Rattle.gl_model.specs.Lists.{lists_of}
use Rattle.gl_causes.specs.Finding.{AreFound}
use Rattle.gl_causes.specs.Stands.{stand_seen}
use Rattle.gl_causes.proofs.cause.causes_among.Given as goal

abbrev pub invariant-loop-stand : goal.invariant-loop-stand
invariant-loop-stand l = AreFound (lists_of l.made) l.rows (map stand_seen l.stands) l.stand-index l.causes.items
