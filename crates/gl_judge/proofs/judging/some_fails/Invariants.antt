use Rattle.std.proofs.Common.{◌≡◌, ℕ, ◌<◌, List, Some, false}
use Rattle.gl_model.specs.declared.event.Stamp.{Stamp}
use Rattle.gl_model.specs.declared.row.Info.{Info}
use Rattle.gl_model.specs.Machine.{Setting}
use Rattle.gl_draws.specs.RowFacts.{Fails, read_of}
use Rattle.gl_judge.specs.Asked.{IsAskedOver}
use Rattle.gl_judge.specs.Standing.{KeptStands}
use Rattle.gl_judge.proofs.judging.some_fails.Given as goal

abbrev pub invariant-loop-read : goal.invariant-loop-read
invariant-loop-read g l =
    (setting : Setting) (h : List Stamp) → IsAskedOver setting h l.from l.window l.q
    → ((t : ℕ) → KeptStands setting h (read_of l.reads t) false) →
    (t : ℕ) (i : Info) → t < l.read-index → read_of l.reads t ≡ Some i → Fails h i l.q.thread l.q.commit → ⊥
