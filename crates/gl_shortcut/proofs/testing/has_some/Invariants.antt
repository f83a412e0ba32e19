use Rattle.std.proofs.Common.{take}
use Rattle.gl_model.specs.declared.event.Element.{Element}
use Rattle.gl_model.specs.Lockset.{Has}
use Rattle.gl_model.specs.Locksets.{IsVarOf}
use Rattle.gl_shortcut.proofs.testing.has_some.Given as goal

abbrev pub invariant-loop-x : goal.invariant-loop-x
invariant-loop-x l = (y : Element) → IsVarOf (take l.x-index l.x-items) y → Has l.set y → ⊥
