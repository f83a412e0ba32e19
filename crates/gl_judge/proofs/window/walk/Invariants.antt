use Rattle.std.proofs.Common.{◌↔◌, take}
use Rattle.gl_model.specs.declared.event.Element.{Element}
use Rattle.gl_model.specs.Lockset.{Has}
use Rattle.gl_model.specs.Locksets.{AfterAll}
use Rattle.gl_judge.proofs.window.walk.Given as goal

abbrev pub invariant-loop-stamp : goal.invariant-loop-stamp
invariant-loop-stamp l = (y : Element) → Has l.set y ↔ AfterAll (Has l.fn.info.set) (take l.stamp-index l.window) y
