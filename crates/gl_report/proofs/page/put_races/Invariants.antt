use Rattle.std.proofs.Common.{◌≡◌, ◌++◌, take}
use Rattle.std.specs.Prelude.{string_bytes}
use Rattle.std.specs.List.{flat_map}
use Rattle.gl_model.specs.Entries.{seen}
use Rattle.gl_report.specs.Lines.{raced_lines}
use Rattle.gl_report.proofs.page.put_races.Given as goal

abbrev pub invariant-loop-thread : goal.invariant-loop-thread
invariant-loop-thread l = string_bytes l.out ≡ string_bytes l.fn.out
    ++ flat_map (λ p. raced_lines p.0 (seen p.1.now)) (take l.thread-index l.entries)
