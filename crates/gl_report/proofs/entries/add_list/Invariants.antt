use Rattle.std.proofs.Common.{◌≡◌, ◌++◌, map, take}
use Rattle.gl_model.specs.Entries.{seen}
use Rattle.gl_report.specs.ByThread.{with_thread}
use Rattle.gl_report.proofs.entries.add_list.Given as goal

abbrev pub invariant-loop-entry : goal.invariant-loop-entry
invariant-loop-entry l =
    map (λ p. (p.0, seen p.1.now)) l.entries.items
    ≡ map (λ p. (p.0, seen p.1.now)) l.fn.entries.items ++ with_thread (l.thread, map seen (take l.entry-index l.list))
