use Rattle.std.proofs.Common.{◌≡◌, ℕ, ◌<◌, length, slice_get, Some}
use Rattle.gl_core.specs.Cells.{cell}
use Rattle.gl_raised.specs.declared.access.Claim.{Claim}
use Rattle.gl_raised.proofs.fault.claim_clocks.Given as goal

abbrev pub invariant-loop-claim : goal.invariant-loop-claim
invariant-loop-claim l = record {
  long : length l.known.items ≡ l.claim-index;
  clocks : (k : ℕ) (a : Claim) → k < l.claim-index → slice_get l.claims k ≡ Some a → (u : ℕ) → cell l.known.items k u
      ≡ cell l.rows a.block u;
}
