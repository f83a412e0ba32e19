-- The texts that are written, but for those of the commands.
use Rattle.std.specs.Prelude.{ℕ, List, ◌++◌, codes}
use Rattle.std.specs.Fmt.{decimal}
use Rattle.gl_trace.specs.Verdicts.{line_end}

abbrev pub refusal : ℕ → ℕ → List ℕ
refusal line kind = codes "refused " ++ (decimal line ++ (codes " " ++ (decimal kind ++ line_end)))

abbrev pub usage : List ℕ
usage = codes "usage: goldi check|list|run|load|audit" ++ line_end
