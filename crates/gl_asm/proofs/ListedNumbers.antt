-- Numbers that are written and read back.
use Rattle.std.proofs.Common.{◌≡◌, ◌+◌, ◌-◌, ◌*◌, ◌^◌, ◌<◌, ◌≤◌, ℕ, suc, ℤ, pos, negsuc, List, [], ◌∷◌, true, false, not, ◌&&◌, eqb, length, fold, Option, Some, None, Ok, refl, ap, ◌∙◌, arith}
use Rattle.std.specs.Prelude.{if◌then◌else◌, neg_ℤ, int_lt, ◌≤ℤ◌, option_and_then}
use Rattle.std.specs.Option.{option_map}
use Rattle.std.specs.List.{AllByRecursion, list_all}
use Rattle.std.specs.Char.{is_ascii_digit}
use Rattle.std.specs.Fmt.{decimal, signed_decimal}
use Rattle.std.specs.Str.Parse.{AllDigits}
use Rattle.std.proofs.lemmas.Bool.{and_from, cond-false, le-leb, lt-ltb, ne_eqb}
use Rattle.std.proofs.lemmas.Fmt.{decimal_is_IsNumeral, digits_value-decimal, length-decimal-le}
use Rattle.std.proofs.lemmas.Int.{ints}
use Rattle.std.proofs.lemmas.Str.Parse.{FoldsDigits, digit_from_value, numerals_by_fold, tells_digits}
use Rattle.gl_text.specs.Number.{digits_value, magnitude_of, number_of, signed_of}
use Rattle.gl_asm.specs.Listable.{IsValue}
use Rattle.gl_asm.specs.declared.limits.TheConstants.{LEAST_VALUE, MOST_VALUE}
use Rattle.gl_asm.specs.Additions.{count_of, found, natural, value_of}
use Rattle.gl_text.proofs.WordLines.{IsWord, IsWordByte, all_map}

-- ## Digits

-- a byte that is a decimal digit
abbrev pub IsDigit : ℕ → Type 0
IsDigit b = (48 ≤ b) × (b ≤ 57)

-- the digits that a number is written with are decimal digits
digits_only : (ds : List ℕ) → AllDigits 10 ds → AllByRecursion IsDigit ds
digits_only [] all = tt
digits_only (d ∷ ds) all = (digit_from_value d all.0, digits_only ds all.1)

-- a number of 64 bits is written with digits alone
pub decimal_digits : (n : ℕ) → n < 2 ^ 64 → AllByRecursion IsDigit (decimal n)
decimal_digits n small = digits_only (decimal n) (decimal_is_IsNumeral n small).0.1

-- a test for digits passes a list of digits
all_digits : (ds : List ℕ) → AllByRecursion IsDigit ds → list_all is_ascii_digit ds ≡ true
all_digits [] all = refl
all_digits (d ∷ ds) all = and_from _ _ (and_from _ _ (le-leb 48 d all.0.0) (le-leb d 57 all.0.1)) (all_digits ds all.1)

-- the value of digits is found by going through them from the left
folds : FoldsDigits (λ n ds. fold (λ m c. m * 10 + (c - 48)) n ds)
folds = record { empty = λ n. refl; more = λ n c cs is. refl }

-- the digits that a number of 64 bits is written with have that number as their value
value_back : (n : ℕ) → n < 2 ^ 64 → digits_value (decimal n) ≡ n
value_back n small = digits_value-decimal (numerals_by_fold (AllDigits 10) tells_digits _ folds) n small

-- a number of 19 digits at most is read back from its digits
magnitude_back : (n : ℕ) → n < 10 ^ 19 → magnitude_of (decimal n) ≡ Some n
magnitude_back n small =
    let some : 0 < length (decimal n) = (decimal_is_IsNumeral n (omega arith)).0.0 in
    let short : length (decimal n) ≤ 19 = length-decimal-le 19 n (omega arith) small (omega arith) in
    rw (and_from _ _ (and_from _ _ (lt-ltb 0 (length (decimal n)) some) (le-leb (length (decimal n)) 19 short))
    (all_digits (decimal n) (decimal_digits n (omega arith))))
    (ap Some (value_back n (omega arith)))

-- ## Naturals

-- digits, at least one, are a word
word_of_digits : (ds : List ℕ) → 0 < length ds → AllByRecursion IsDigit ds → IsWord ds
word_of_digits ds some all = (
  some,
  all_map IsDigit IsWordByte ds
      (λ b is. (omega (arith, is.0), omega (arith, is.1), λ e. omega (arith, is.0))) all,
)

-- a number that is written in digits is a word
pub word_decimal : (n : ℕ) → n < 10 ^ 19 → IsWord (decimal n)
word_decimal n small = word_of_digits (decimal n) (decimal_is_IsNumeral n (omega arith)).0.0 (decimal_digits n (omega arith))

-- digits without a sign are read as a number that is not negative
no_sign : (ds : List ℕ) → 0 < length ds → AllByRecursion IsDigit ds → signed_of ds ≡ option_map pos (magnitude_of ds)
no_sign [] some all = absurd (omega arith)
no_sign (d ∷ ds) some all =
    cond-false (eqb d 45) (option_map (λ n. neg_ℤ (pos n)) (magnitude_of ds)) (option_map pos (magnitude_of (d ∷ ds)))
    (ne_eqb d 45 (λ e. omega (arith, all.0)))

-- a number without a sign is read back as that integer
signed_decimal_back : (n : ℕ) → n < 10 ^ 19 → signed_of (decimal n) ≡ Some (pos n)
signed_decimal_back n small =
    no_sign (decimal n) (decimal_is_IsNumeral n (omega arith)).0.0 (decimal_digits n (omega arith))
    ∙ ap (option_map pos) (magnitude_back n small)

-- what is at most as great is not above
not_under : (a b : ℤ) → a ≤ℤ b → int_lt b a ≡ false
not_under a b le = grind (arith, ints)

-- a word that is read as an integer within the bounds is read as a number of this range
within : (least most z : ℤ) (word : List ℕ) → least ≤ℤ z → z ≤ℤ most → signed_of word ≡ Some z → number_of least most word ≡ Some z
within least most z word low high is =
    let bounded : Option ℤ → Option ℤ = option_and_then (λ y. if not (int_lt y least) && not (int_lt most y) then Some y else None) in
    ap bounded is ∙ rw (not_under least z low, not_under z most high) refl

-- a count within its bounds is read back from its digits
pub count_decimal : (least most n : ℕ) → least ≤ n → n ≤ most → n < 10 ^ 19 → count_of least most (decimal n) ≡ Ok n
count_decimal least most n low high small =
    ap natural (within (pos least) (pos most) (pos n) (decimal n) (omega (arith, ints)) (omega (arith, ints)) (signed_decimal_back n small))

-- ## Integers

-- an integer of 64 bits that is not negative has 19 digits at most
pub few_digits : (n : ℕ) → pos n ≤ℤ MOST_VALUE → n < 10 ^ 19
few_digits n high = omega (arith, ints)

-- a negative integer of 64 bits has 19 digits at most
pub few_digits_below : (n : ℕ) → LEAST_VALUE ≤ℤ negsuc n → suc n < 10 ^ 19
few_digits_below n low = omega (arith, ints)

-- an integer of 64 bits is read back from what it is written as
signed_back : (z : ℤ) → IsValue z → signed_of (signed_decimal z) ≡ Some z
signed_back (pos n) is = signed_decimal_back n (few_digits n is.1)
signed_back (negsuc n) is = ap (option_map (λ m. neg_ℤ (pos m))) (magnitude_back (suc n) (few_digits_below n is.0))

-- a value that is written is read back as a value
pub value_decimal : (z : ℤ) → IsValue z → value_of (signed_decimal z) ≡ Ok z
value_decimal z is = ap found (within LEAST_VALUE MOST_VALUE z (signed_decimal z) is.0 is.1 (signed_back z is))

-- a value that is written is a word
pub word_signed : (z : ℤ) → IsValue z → IsWord (signed_decimal z)
word_signed (pos n) is = word_decimal n (few_digits n is.1)
word_signed (negsuc n) is =
    let word = word_decimal (suc n) (few_digits_below n is.0) in
    (omega arith, ((omega arith, omega arith, λ e. omega arith), word.1))
