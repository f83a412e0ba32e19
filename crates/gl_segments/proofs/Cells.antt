-- The cells of a ring from its segments.
use Rattle.std.proofs.Common.{◌↔◌, ℕ, ◌+◌, ◌*◌, ◌/◌, ◌<◌, subst}
use Rattle.std.proofs.Math.Nat.{div-lt_iff_lt-mul, add-mul}

-- the segment of a position is below low + s exactly where the position is below the number of cells of low + s segments
pub room_cells : (low s cells tail : ℕ) → 0 < cells → (tail / cells < low + s) ↔ (tail < low * cells + s * cells)
room_cells low s cells tail some = subst (λ n. (tail / cells < low + s) ↔ (tail < n)) (add-mul low s cells) (div-lt_iff_lt-mul some)
