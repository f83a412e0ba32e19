use Rattle.std.proofs.Common.{ℕ, ◌<◌, get_or}
use Rattle.gl_model.specs.declared.tx.Look.{Look}
use Rattle.gl_model.proofs.tx.Looks.place_of.Given as goal

abbrev pub invariant-loop-i : goal.invariant-loop-i
invariant-loop-i l = (k : ℕ) (d : Look) → k < l.i → (get_or l.parts k d).var < l.var
