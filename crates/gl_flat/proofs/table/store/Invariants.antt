use Rattle.std.proofs.Common.{◌≡◌, ℕ, ◌<◌, take}
use Rattle.gl_model.specs.Flat.{stored}
use Rattle.gl_model.specs.declared.limits.TheConstants.{VARIABLES}
use Rattle.gl_flat.specs.Walk.{word_in}
use Rattle.gl_flat.proofs.table.store.Given as goal

-- the words after the writes so far
abbrev pub invariant-loop-i : goal.invariant-loop-i
invariant-loop-i l = (x : ℕ) → x < VARIABLES → word_in l.words x ≡ stored (word_in l.fn.words) (take l.i l.writes) x
