use Rattle.std.proofs.Common.{ℕ, ◌*◌, ◌<◌}
use Rattle.gl_cache.specs.Bits.{HasBit}
use Rattle.gl_cache.proofs.bits.VarBits.least.Given as goal

abbrev pub invariant-loop-k : goal.invariant-loop-k
invariant-loop-k l = (y : ℕ) → y < 64 * l.k → HasBit l.self.words y → ⊥
