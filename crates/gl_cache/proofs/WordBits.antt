-- Bits of a list of words.
use Rattle.std.proofs.Common.{◌≡◌, ◌≢◌, ℕ, ◌+◌, ◌*◌, ◌/◌, ◌%◌, ◌^◌, ◌<◌, ◌≤◌, List, length, refl, sym, ◌∙◌, inl, inr, arith, bit_or, bit_and, w64, get_or, true, false, eq-eqb, replicate, ap}
use Rattle.std.specs.Prelude.{◌⊎◌, ◌↔◌, Bool, ◌==◌}
use Rattle.std.specs.Int.{bit_at, bit_not}
use Rattle.std.proofs.Math.ListN.{set}
use Rattle.std.proofs.lemmas.Bool.{eqb-true, cases_lt}
use Rattle.std.proofs.lemmas.List.{get_or-set_same, get_or-set_other, get_or-replicate, get_or_past, length-replicate}
use Rattle.std.proofs.lemmas.Nat.Bits.{bit_at-zero, bit_at_set_same, bit_at_set_other, bit_at_clear_same, bit_at_clear_other}
use Rattle.gl_cache.specs.Bits.{HasBit}

-- two numbers are the same or not
pub same_or_other : (j k : ℕ) → (j ≡ k) ⊎ (j ≢ k)
same_or_other j k = go (j == k) refl
  where
    go : (b : Bool) → (j == k) ≡ b → (j ≡ k) ⊎ (j ≢ k)
    go true e = inl (eqb-true j k e)
    go false e = inr (λ same. let t = eq-eqb j k same in cc)

-- a word that is zero has no bit set
zero_word : (w i : ℕ) → w ≡ 0 → bit_at w i ≡ 1 → ⊥
zero_word w i e is =
    let z : bit_at w i ≡ 0 = ap (λ v. bit_at v i) e ∙ bit_at-zero i in
    let t : 0 ≡ 1 = sym z ∙ is in
    omega arith

-- no bit is set in words of 0
pub no_bit : (n x : ℕ) → HasBit (replicate n 0) x → ⊥
unfolding HasBit
no_bit n x h = elim (cases_lt (x / 64) n) [
  | inl within ↦ zero_word (get_or (replicate n 0) (x / 64) 0) (x % 64) (get_or-replicate n (x / 64) 0 0 within) h
  | inr past ↦
      (let long : length (replicate n 0) ≤ x / 64 = rw (length-replicate {A = ℕ} n 0) past in
      zero_word (get_or (replicate n 0) (x / 64) 0) (x % 64) (get_or_past (replicate n 0) (x / 64) 0 long) h)
]

module _ (words : List ℕ) (k : ℕ) (n : k / 64 < length words) where
  -- the word that has the bit k
  word : ℕ
  word = get_or words (k / 64) 0

  -- the words with another in the place of the bit k
  bit_kept : (w : ℕ) → ((i : ℕ) → i < 64 → i ≢ k % 64 → bit_at w i ≡ bit_at word i) → (j : ℕ) → j ≢ k
      → bit_at (get_or (set words (k / 64) w) (j / 64) 0) (j % 64) ≡ bit_at (get_or words (j / 64) 0) (j % 64)
  unfolding word
  bit_kept w rest j ne = elim (same_or_other (j / 64) (k / 64)) [
    | inl same ↦
        (let here : j % 64 ≢ k % 64 = omega arith in
        let b : j % 64 < 64 = omega arith in
        rw (same, get_or-set_same words (k / 64) w 0 n) (rest (j % 64) b here))
    | inr other ↦ rw (get_or-set_other words (k / 64) (j / 64) w 0 other)
  ]

  -- with a word in that place the bit k is the word's own
  bit_here : (w b : ℕ) → bit_at w (k % 64) ≡ b → bit_at (get_or (set words (k / 64) w) (k / 64) 0) (k % 64) ≡ b
  bit_here w b is = rw (get_or-set_same words (k / 64) w 0 n) is

  -- with the bit k set
  pub HasBit-with_bit : (j : ℕ) → HasBit (set words (k / 64) (bit_or (get_or words (k / 64) 0) (1 * 2 ^ (k % 64) % 2 ^ 64))) j ↔ ((j ≡ k)
      ⊎ HasBit words j)
  unfolding word HasBit
  HasBit-with_bit j =
      let w = bit_or (get_or words (k / 64) 0) (1 * 2 ^ (k % 64) % 2 ^ 64) in
      let b : k % 64 < 64 = omega arith in
      elim (same_or_other j k) [
        | inl same ↦ (λ h. inl same, λ h. rw same (bit_here w 1 (bit_at_set_same w64 (get_or words (k / 64) 0) (k % 64) b)))
        | inr other ↦
            (let kept = bit_kept w (λ i within ne. bit_at_set_other w64 (get_or words (k / 64) 0) (k % 64) b i ne) j other in
            (λ h. inr (sym kept ∙ h), λ h. elim h [ inl same ↦ absurd (other same) | inr old ↦ kept ∙ old ]))
      ]

  -- clearing bit k leaves just the other bits that were set
  pub HasBit-without_bit : (j : ℕ) → HasBit
      (set words (k / 64) (bit_and (get_or words (k / 64) 0) (bit_not w64 (1 * 2 ^ (k % 64) % 2 ^ 64)))) j ↔ ((j ≢ k) × HasBit words j)
  unfolding word HasBit
  HasBit-without_bit j =
      let w = bit_and (get_or words (k / 64) 0) (bit_not w64 (1 * 2 ^ (k % 64) % 2 ^ 64)) in
      let b : k % 64 < 64 = omega arith in
      elim (same_or_other j k) [
        | inl same ↦
            (let gone = bit_here w 0 (bit_at_clear_same w64 (get_or words (k / 64) 0) (k % 64) b) in (
              λ h. (let h' : bit_at (get_or (set words (k / 64) w) (k / 64) 0) (k % 64) ≡ 1 = (rw same at h) in let t : 0 ≡ 1 = sym gone
                  ∙ h' in absurd (omega arith)),
              λ h. absurd (h.0 same),
            ))
        | inr other ↦
            (let kept = bit_kept w (λ i within ne. bit_at_clear_other w64 (get_or words (k / 64) 0) (k % 64) b i within ne) j other in
            (λ h. (other, sym kept ∙ h), λ h. kept ∙ h.1))
      ]

-- ## The least

-- if no bit below 64 k is set and the word at k is zero, none below 64 (k + 1) is
pub none_more : (words : List ℕ) (k : ℕ) → get_or words k 0 ≡ 0 → ((y : ℕ) → y < 64 * k → HasBit words y → ⊥) → (y : ℕ) → y < 64 * (k + 1)
    → HasBit words y → ⊥
unfolding HasBit
none_more words k zero' none y below h = elim (same_or_other (y / 64) k) [
  | inl same ↦ zero_word (get_or words (y / 64) 0) (y % 64) (ap (λ i. get_or words i 0) same ∙ zero') h
  | inr other ↦ none y (omega arith) h
]

pub record IsLeast (words : List ℕ) (x : ℕ) : Type 0 where
  pub there : HasBit words x
  pub least : (y : ℕ) → HasBit words y → x ≤ y

-- if no bit below 64 k is set, the least bit of the word at k is the least of all
pub least_there :
    (words : List ℕ) (k z : ℕ) → z < 64 → bit_at (get_or words k 0) z ≡ 1 → ((i : ℕ) → i < z → bit_at (get_or words k 0) i ≡ 0) →
    ((y : ℕ) → y < 64 * k → HasBit words y → ⊥) → IsLeast words (64 * k + z)
unfolding HasBit
least_there words k z near is low none =
    let at : (64 * k + z) / 64 ≡ k = omega arith in
    let bit : (64 * k + z) % 64 ≡ z = omega arith in
    record {
      there = rw (at, bit) is;
      least = λ y h. elim (cases_lt y (64 * k + z)) [
        | inr past ↦ past
        | inl below ↦ elim (cases_lt y (64 * k)) [
          | inl before ↦ absurd (none y before h)
          | inr behind ↦
              (let here : y / 64 ≡ k = omega arith in
              let early : y % 64 < z = omega arith in
              let h' : bit_at (get_or words k 0) (y % 64) ≡ 1 = (rw here at h) in
              let t : 0 ≡ 1 = sym (low (y % 64) early) ∙ h' in
              absurd (omega arith))
        ]
      ];
    }
