use Rattle.std.proofs.Common.{◌≡◌, map}
use Rattle.gl_model.specs.Entries.{seen}
use Rattle.gl_report.specs.ByThread.{by_thread}
use Rattle.gl_model.proofs.ThreadLists.{below}
use Rattle.gl_report.proofs.entries.entries_of.Given as goal

abbrev pub invariant-loop-thread : goal.invariant-loop-thread
invariant-loop-thread l = map (λ p. (p.0, seen p.1.now)) l.entries.items ≡ by_thread (below l.thread l.made)
