-- A list at the head of an array of n numbers, with zeros behind it.
use Rattle.std.specs.Prelude.{◌≡◌, ℕ, ◌≤◌, ◌-◌, ◌++◌, List, length, take, drop, replicate}
use Rattle.std.proofs.Common.{arith}
use Rattle.std.proofs.lemmas.List.{take-append-drop, length-take-le}

-- the list and so many zeros as are missing are the array
pub padded_back : (n : ℕ) (ids : List ℕ) (len : ℕ) → length ids ≡ n → len ≤ n → drop len ids ≡ replicate (n - len) 0 → take len ids
    ++ replicate (n - length (take len ids)) 0 ≡ ids
padded_back n ids len l le z =
    let within : len ≤ length ids = omega arith in
    rw (length-take-le, ← z) (take-append-drop len ids)

pub head_length : (n : ℕ) (ids : List ℕ) (len : ℕ) → length ids ≡ n → len ≤ n → length (take len ids) ≡ len
head_length n ids len l le =
    let within : len ≤ length ids = omega arith in
    length-take-le len ids within
