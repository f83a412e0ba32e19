use Rattle.std.proofs.Common.{◌≡◌, ℕ, ◌<◌, Some}
use Rattle.gl_model.specs.declared.row.Info.{Info}
use Rattle.gl_draws.specs.RowFacts.{read_of}
use Rattle.gl_shortcut.specs.Ordering.{Orders}
use Rattle.gl_judge.specs.Conflicting.{Conflicts}
use Rattle.gl_judge.proofs.asking.are_clear.Given as goal

abbrev pub invariant-loop-read : goal.invariant-loop-read
invariant-loop-read g l = (t : ℕ) (i : Info) → t < l.read-index → read_of l.reads t ≡ Some i → Conflicts i l.q → Orders i l.q
