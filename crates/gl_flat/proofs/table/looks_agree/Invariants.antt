use Rattle.std.proofs.Common.{◌≡◌, ℕ, ◌<◌, Some}
use Rattle.std.specs.Prelude.{slice_get}
use Rattle.gl_model.specs.declared.tx.Look.{Look}
use Rattle.gl_flat.specs.Walk.{word_in}
use Rattle.gl_flat.proofs.table.looks_agree.Given as goal

-- each look so far has its word
abbrev pub invariant-loop-i : goal.invariant-loop-i
invariant-loop-i l = (k : ℕ) (look : Look) → k < l.i → slice_get l.looks k ≡ Some look → look.value ≡ word_in l.words look.var
