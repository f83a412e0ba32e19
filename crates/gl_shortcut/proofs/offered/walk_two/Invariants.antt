use Rattle.std.proofs.Common.{◌↔◌, take}
use Rattle.std.specs.Prelude.{filter}
use Rattle.gl_model.specs.declared.event.Element.{Element}
use Rattle.gl_model.specs.Lockset.{Has}
use Rattle.gl_model.specs.Locksets.{AfterAll}
use Rattle.gl_shortcut.specs.Asking.{is_of_two}
use Rattle.gl_shortcut.proofs.offered.walk_two.Given as goal

abbrev pub invariant-loop-stamp : goal.invariant-loop-stamp
invariant-loop-stamp l = (y : Element) → Has l.set y ↔ AfterAll (Has l.fn.info.set)
    (filter (is_of_two l.fn.info.thread l.fn.q.thread) (take l.stamp-index l.window)) y
