use Rattle.std.proofs.Common.{◌≡◌, ◌<◌, ℕ, map}
use Rattle.std.specs.Prelude.{slice_get}
use Rattle.gl_form.proofs.alone.are_on.Given as goal

abbrev pub invariant-loop-i : goal.invariant-loop-i
invariant-loop-i l = (k : ℕ) → k < l.i → slice_get (map (λ n. n.var) l.numbers) k ≡ slice_get l.vars k
