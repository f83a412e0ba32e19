use Rattle.std.proofs.Common.{◌≡◌, ◌++◌, drop, string_bytes}
use Rattle.std.specs.List.{flat_map}
use Rattle.gl_trace.specs.Judging.{judged_lines}
use Rattle.gl_trace.specs.Verdicts.{verdict_line}
use Rattle.gl_trace.proofs.verdicts.verdict_text.Given as goal

abbrev pub invariant-loop-i : goal.invariant-loop-i
invariant-loop-i l =
    string_bytes l.out ++ flat_map (λ p. verdict_line p.0.0 p.1) (judged_lines (drop l.i l.lines) (drop l.i l.judged))
    ≡ flat_map (λ p. verdict_line p.0.0 p.1) (judged_lines l.lines l.judged)
