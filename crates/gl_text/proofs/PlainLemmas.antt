-- Lines that end with the first byte which is not printable, or not plain.
use Rattle.std.proofs.Common.{◌≡◌, ◌+◌, ℕ, List, [], ◌∷◌, Bool, true, false, true≢false, ◌||◌, ◌==◌, ◌-◌, zero, suc, inl, inr, Some, get_or, slice_index, length, drop, take, refl, ap, sym, ◌∙◌, arith}
use Rattle.std.specs.List.{position, position_or_len, before_first, after_first, list_any}
use Rattle.std.specs.Str.Lines.{lines, strip_carriage_return}
use Rattle.std.proofs.lemmas.Bool.{cases_Bool, cond-false, eqb-true}
use Rattle.std.proofs.lemmas.List.Quantifiers.{position-Some}
use Rattle.std.proofs.lemmas.List.Sums.{position_or_len_is}
use Rattle.gl_text.specs.Text.{is_line_feed, is_hash, is_unprintable, is_special, is_bad, IsPlain}
use Rattle.gl_text.proofs.TextLemmas.{lines_first, place_some, fewer_pass, printable_good}

-- none before the first that passes does
front_fails : (p : ℕ → Bool) (bs : List ℕ) → list_any p (before_first p bs) ≡ false
front_fails p [] = refl
front_fails p (x ∷ xs) =
    elim (cases_Bool (p x)) [
      | inl e ↦ let none : position_or_len p (x ∷ xs) ≡ 0 = rw e refl in rw none refl
      | inr e ↦
          let more : position_or_len p (x ∷ xs) ≡ suc (position_or_len p xs) = rw e (omega arith) in
          rw more (rw e (front_fails p xs))
    ]

-- where not one of two holds, neither does
pub or_none : (a b : Bool) → a || b ≡ false → (a ≡ false) × (b ≡ false)
or_none true b e = absurd (true≢false e)
or_none false b e = (refl, e)

-- a printable byte is no line feed
no_feed : (b : ℕ) → is_unprintable b ≡ false → is_line_feed b ≡ false
no_feed b e = elim (cases_Bool (is_line_feed b)) [
  | inl feed ↦ let ten : b ≡ 10 = eqb-true b 10 feed in absurd (true≢false (rw ten at e))
  | inr none ↦ none
]

-- a printable byte is no carriage return
no_return_byte : (b : ℕ) → is_unprintable b ≡ false → (b == 13) ≡ false
no_return_byte b e = elim (cases_Bool (b == 13)) [
  | inl return ↦ let thirteen : b ≡ 13 = eqb-true b 13 return in absurd (true≢false (rw thirteen at e))
  | inr none ↦ none
]

-- a line of printable bytes has no carriage return at any place
no_return : (bs : List ℕ) (k : ℕ) → list_any is_unprintable bs ≡ false → (slice_index bs k == 13) ≡ false
no_return [] k e = refl
no_return (x ∷ xs) zero e = no_return_byte x (or_none (is_unprintable x) (list_any is_unprintable xs) e).0
no_return (x ∷ xs) (suc k) e = no_return xs k (or_none (is_unprintable x) (list_any is_unprintable xs) e).1

-- a byte that is not special is printable
plain_printable : (b : ℕ) → is_special b ≡ false → is_unprintable b ≡ false
plain_printable b e = (or_none (is_hash b) (is_unprintable b) e).1

-- what a plain line has not
pub plain_good : (bs : List ℕ) → IsPlain bs → is_bad bs ≡ false
plain_good bs e = printable_good bs (fewer_pass is_special is_unprintable plain_printable bs e)

-- a byte that is 10 is a line feed
fed : (b : ℕ) → b ≡ 10 → is_line_feed b ≡ true
fed b e = rw e refl

-- at a line feed behind printable bytes the first line ends
feed_place : (p : ℕ → Bool) → ((b : ℕ) → p b ≡ false → is_unprintable b ≡ false) → (bs : List ℕ) (n : ℕ) → position p bs ≡ Some n
    → get_or bs n 0 ≡ 10 → position_or_len is_line_feed bs ≡ n
feed_place p to bs n found feed =
    let (within, here, below) = position-Some p bs n 0 found in
    position_or_len_is is_line_feed bs n 0 (omega arith) (λ k h. no_feed (get_or bs k 0) (to (get_or bs k 0) (below k h)))
    (λ h. fed (get_or bs n 0) feed)

-- and no carriage return stands before it
kept_end : (bs : List ℕ) → list_any is_unprintable bs ≡ false → strip_carriage_return bs ≡ bs
kept_end bs e = cond-false (slice_index bs (length bs - 1) == 13) (take (length bs - 1) bs) bs (no_return bs (length bs - 1) e)

-- what is before the first byte that passes has none that does
none_front : (p : ℕ → Bool) (bs line : List ℕ) (n : ℕ) → position p bs ≡ Some n → line ≡ take n bs → list_any p line ≡ false
none_front p bs line n found front =
    let (at, within) = place_some p bs n found in
    let same : before_first p bs ≡ line = ap (λ k. take k bs) at ∙ sym front in
    rw same at (front_fails p bs)

-- where the first byte of a text that passes is a line feed, and all others that pass are not printable either, what is before it is the
-- first line, and what is after it the others
first_until : (p : ℕ → Bool) → ((b : ℕ) → p b ≡ false → is_unprintable b ≡ false) → (bs line rest : List ℕ) (n : ℕ)
    → position p bs ≡ Some n → get_or bs n 0 ≡ 10 → line ≡ take n bs → rest ≡ drop (n + 1) bs
    → lines bs ≡ line ∷ lines rest
first_until p to bs line rest n found feed front back =
    let at = feed_place p to bs n found feed in
    let (within, here, below) = position-Some p bs n 0 found in
    let whole = kept_end line (fewer_pass p is_unprintable to line (none_front p bs line n found front)) in
    let same_line : strip_carriage_return (before_first is_line_feed bs) ≡ line = ap (λ k. strip_carriage_return (take k bs)) at
    ∙ ap strip_carriage_return (sym front) ∙ whole in
    let same_rest : after_first is_line_feed bs ≡ rest = ap (λ k. drop (k + 1) bs) at ∙ sym back in
    lines_first bs (omega arith) ∙ ap (λ l. l ∷ lines (after_first is_line_feed bs)) same_line ∙ ap (λ l. line ∷ lines l) same_rest

-- where the first special byte of a text is a line feed, what is before it is the first line, and what is after it the others
pub plain_first : (bs line rest : List ℕ) (n : ℕ) → position is_special bs ≡ Some n → get_or bs n 0 ≡ 10 → line ≡ take n bs → rest
    ≡ drop (n + 1) bs
    → lines bs ≡ line ∷ lines rest
plain_first bs line rest n found feed front back = first_until is_special plain_printable bs line rest n found feed front back

-- the same of the first byte that is not printable
pub printable_first : (bs line rest : List ℕ) (n : ℕ) → position is_unprintable bs ≡ Some n → get_or bs n 0 ≡ 10 → line ≡ take n bs
    → rest ≡ drop (n + 1) bs
    → lines bs ≡ line ∷ lines rest
printable_first bs line rest n found feed front back = first_until is_unprintable (λ b e. e) bs line rest n found feed front back

-- and what is before it has no bad byte
pub printable_front : (bs line : List ℕ) (n : ℕ) → position is_unprintable bs ≡ Some n → line ≡ take n bs → is_bad line ≡ false
printable_front bs line n found front = printable_good line (none_front is_unprintable bs line n found front)
