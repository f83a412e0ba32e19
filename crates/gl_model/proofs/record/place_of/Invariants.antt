use Rattle.std.proofs.Common.{ℕ, ◌<◌, get_or}
use Rattle.gl_model.specs.declared.record.ThreadList.{ThreadList}
use Rattle.gl_model.proofs.record.place_of.Given as goal

abbrev pub invariant-loop-i : goal.invariant-loop-i
invariant-loop-i l = (k : ℕ) (d : ThreadList) → k < l.i → (get_or l.lists k d).thread < l.thread
