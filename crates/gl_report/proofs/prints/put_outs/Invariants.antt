use Rattle.std.proofs.Common.{◌≡◌, ◌++◌, take}
use Rattle.std.specs.Prelude.{string_bytes}
use Rattle.std.specs.List.{flat_map}
use Rattle.gl_model.specs.Entries.{seen}
use Rattle.gl_report.specs.Lines.{out_lines_at}
use Rattle.gl_report.proofs.prints.put_outs.Given as goal

abbrev pub invariant-loop-first : goal.invariant-loop-first
invariant-loop-first l = string_bytes l.out ≡ string_bytes l.fn.out
    ++ flat_map (out_lines_at (λ e. seen e.now)) (take l.first-index l.firsts)
