use Rattle.std.proofs.Common.{ℕ, ◌<◌, get_or}
use Rattle.gl_model.specs.declared.tx.Number.{Number}
use Rattle.gl_model.proofs.tx.Numbers.place_of.Given as goal

abbrev pub invariant-loop-i : goal.invariant-loop-i
invariant-loop-i l = (k : ℕ) (d : Number) → k < l.i → (get_or l.parts k d).var < l.var
