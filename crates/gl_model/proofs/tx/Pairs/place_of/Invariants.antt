use Rattle.std.proofs.Common.{ℕ, ◌<◌, get_or}
use Rattle.gl_model.specs.declared.tx.Pair.{Pair}
use Rattle.gl_model.proofs.tx.Pairs.place_of.Given as goal

abbrev pub invariant-loop-i : goal.invariant-loop-i
invariant-loop-i l = (k : ℕ) (d : Pair) → k < l.i → (get_or l.parts k d).var < l.var
