-- A set of variables, as bits of words.
use Rattle.std.specs.Prelude.{◌≡◌, ℕ, ◌/◌, ◌%◌, List, slice_index}
use Rattle.std.specs.Int.{bit_at}

-- the bit k of words of 64 bits is set
unfoldable pub HasBit : List ℕ → ℕ → Type 0
HasBit words k = bit_at (slice_index words (k / 64)) (k % 64) ≡ 1
