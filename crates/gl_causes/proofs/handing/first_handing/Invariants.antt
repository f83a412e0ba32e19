use Rattle.gl_model.specs.Lists.{lists_of}
use Rattle.gl_places.specs.Places.{seen}
use Rattle.gl_causes.specs.Handing.{NoneHandsOn}
use Rattle.gl_causes.proofs.handing.first_handing.Given as goal

abbrev pub invariant-loop-index : goal.invariant-loop-index
invariant-loop-index l = NoneHandsOn (lists_of l.made) (seen l.place) l.index
