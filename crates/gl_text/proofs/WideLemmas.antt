-- Bytes that are looked at in chunks of eight.
use Rattle.std.proofs.Common.{◌≡◌, ◌+◌, ◌*◌, ◌<◌, ◌≤◌, ℕ, List, [], ◌∷◌, Bool, true, false, ◌||◌, not, zero, suc, inl, inr, Some, None, unwrap_or, ◌++◌, length, length-drop, drop, take, refl, ap, sym, ◌∙◌, arith}
use Rattle.std.specs.List.{position, position_or_len, list_any}
use Rattle.std.specs.Simd.{first_chunks}
use Rattle.std.proofs.Math.Seq.{take-add}
use Rattle.std.proofs.lemmas.Bool.{cases_Bool, lt-ltb, le-ltb, or_from}
use Rattle.std.proofs.lemmas.List.Folds.{list_any-append}
use Rattle.std.proofs.lemmas.List.Sums.{prefix_len-le-length}
use Rattle.gl_text.proofs.PlainLemmas.{or_none}
use Rattle.gl_text.proofs.TextLemmas.{place_some, place_none, place_or_len}

-- `or` with false changes nothing
or_false : (a : Bool) → (a || false) ≡ a
or_false true = refl
or_false false = refl

-- one of a list and one byte more passes where one of the list does or the byte
pub any_more : (p : ℕ → Bool) (ys : List ℕ) (x : ℕ) (a b : Bool) → a ≡ list_any p ys → b ≡ (a || p x) → b ≡ list_any p (ys ++ x ∷ [])
any_more p ys x a b so e =
    let last : (p x || false) ≡ p x = or_false (p x) in
    e ∙ ap (λ c. c || p x) so ∙ ap (λ c. list_any p ys || c) (sym last) ∙ sym (list_any-append p ys (x ∷ []))

-- the bytes before the first chunk that has one which passes have none that does
chunks_none : (p : ℕ → Bool) (k : ℕ) (bs : List ℕ) → list_any p (take (position_or_len (list_any p) (first_chunks 8 k bs) * 8) bs) ≡ false
chunks_none p zero bs = refl
chunks_none p (suc k) bs =
    let m : ℕ = position_or_len (list_any p) (first_chunks 8 k (drop 8 bs)) in
    elim (cases_Bool (list_any p (take 8 bs))) [
      | inl here ↦
          let none : position_or_len (list_any p) (first_chunks 8 (suc k) bs) ≡ 0 = rw here refl in
          ap (λ n. list_any p (take (n * 8) bs)) none
      | inr good ↦
          let more : position_or_len (list_any p) (first_chunks 8 (suc k) bs) ≡ suc m = rw good (omega arith) in
          let count : suc m * 8 ≡ 8 + m * 8 = omega arith in
          ap (λ n. list_any p (take (n * 8) bs)) more
          ∙ ap (λ n. list_any p (take n bs)) count
          ∙ ap (list_any p) (take-add 8 (m * 8) bs)
          ∙ list_any-append p (take 8 bs) (take (m * 8) (drop 8 bs))
          ∙ or_from _ _ good (chunks_none p k (drop 8 bs))
    ]

-- what the number of such chunks, found by `position`, says of the bytes of these chunks
pub chunks_before : (p : ℕ → Bool) (k n : ℕ) (bs : List ℕ) (chunks : List (List ℕ)) → chunks ≡ first_chunks 8 k bs → length chunks ≡ k
    → n ≡ unwrap_or (position (list_any p) chunks) (length chunks) → (n ≤ k) × (list_any p (take (n * 8) bs) ≡ false)
chunks_before p k n bs chunks are count e =
    let place : n ≡ position_or_len (list_any p) chunks = e ∙ place_or_len (list_any p) chunks in
    let same : n ≡ position_or_len (list_any p) (first_chunks 8 k bs) = place ∙ ap (position_or_len (list_any p)) are in
    let le : position_or_len (list_any p) chunks ≤ length chunks = prefix_len-le-length (λ c. not (list_any p c)) chunks in
    (omega arith, ap (λ i. list_any p (take (i * 8) bs)) same ∙ chunks_none p k bs)

-- behind a front in which none passes the first place is so much further on
behind_front : (p : ℕ → Bool) (n : ℕ) (bs : List ℕ) → n ≤ length bs → list_any p (take n bs) ≡ false
    → position_or_len p bs ≡ n + position_or_len p (drop n bs)
behind_front p zero bs le e = omega arith
behind_front p (suc n) [] le e = absurd (omega arith)
behind_front p (suc n) (x ∷ xs) le e =
    let (here, rest) = or_none (p x) (list_any p (take n xs)) e in
    let more : position_or_len p (x ∷ xs) ≡ suc (position_or_len p xs) = rw here (omega arith) in
    omega (arith, more, behind_front p n xs (omega arith) rest)

-- a place that is found behind such a front is the first of all
pub found_behind : (p : ℕ → Bool) (n k : ℕ) (bs : List ℕ) → n ≤ length bs → list_any p (take n bs) ≡ false
    → position p (drop n bs) ≡ Some k → Some (n + k) ≡ position p bs
found_behind p n k bs le e found =
    let (at, within) = place_some p (drop n bs) k found in
    let place : position_or_len p bs ≡ n + k = behind_front p n bs le e ∙ ap (λ m. n + m) at in
    let below : position_or_len p bs < length bs = omega (arith, length-drop n bs) in
    rw (lt-ltb (position_or_len p bs) (length bs) below) (ap Some (sym place))

-- where none is found behind such a front there is none at all
pub none_behind : (p : ℕ → Bool) (n : ℕ) (bs : List ℕ) → n ≤ length bs → list_any p (take n bs) ≡ false
    → position p (drop n bs) ≡ None → None ≡ position p bs
none_behind p n bs le e none =
    let past = place_none p (drop n bs) none in
    let above : length bs ≤ position_or_len p bs = omega (arith, behind_front p n bs le e, length-drop n bs) in
    rw (le-ltb (position_or_len p bs) (length bs) above) refl
