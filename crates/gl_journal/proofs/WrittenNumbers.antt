-- Numbers that are written and read back.
use Rattle.std.proofs.Common.{◌≡◌, ◌+◌, ◌-◌, ◌*◌, ◌^◌, ◌<◌, ◌≤◌, ℕ, suc, ℤ, pos, negsuc, List, [], ◌∷◌, true, false, not, ◌&&◌, eqb, length, fold, Option, Some, None, Ok, refl, ap, ◌∙◌, arith}
use Rattle.std.specs.Prelude.{if◌then◌else◌, neg_ℤ, int_lt, ◌≤ℤ◌, option_and_then}
use Rattle.std.specs.Option.{option_map}
use Rattle.std.specs.List.{AllByRecursion, list_all}
use Rattle.std.specs.Char.{is_ascii_digit}
use Rattle.std.specs.Fmt.{decimal, signed_decimal}
use Rattle.std.specs.Str.Parse.{AllDigits}
use Rattle.std.proofs.lemmas.Bool.{and_from, cond-false, le-leb, lt-ltb, ne_eqb}
use Rattle.std.proofs.lemmas.Fmt.{decimal_is_IsNumeral, digits_value-decimal, length-decimal-le}
use Rattle.std.proofs.lemmas.Int.{ints}
use Rattle.std.proofs.lemmas.Str.Parse.{FoldsDigits, digit_from_value, numerals_by_fold, tells_digits}
use Rattle.gl_text.specs.Number.{digits_value, magnitude_of, number_of, signed_of}
use Rattle.gl_journal.specs.Fields.{found, natural_in, not_negative, value_in}
use Rattle.gl_journal.specs.Written.{IsValue}
use Rattle.gl_journal.specs.declared.limits.TheConstants.{LEAST_VALUE, MOST_VALUE}
use Rattle.gl_text.proofs.WordLines.{IsWord, IsWordByte, all_map}

-- ## Digits

-- a decimal digit, as a byte
abbrev pub IsDigit : ℕ → Type 0
IsDigit b = (48 ≤ b) × (b ≤ 57)

-- decimal digits are such bytes
digits_only : (ds : List ℕ) → AllDigits 10 ds → AllByRecursion IsDigit ds
digits_only [] all = tt
digits_only (d ∷ ds) all = (digit_from_value d all.0, digits_only ds all.1)

-- a number of 64 bits, written, is of digits
decimal_digits : (n : ℕ) → n < 2 ^ 64 → AllByRecursion IsDigit (decimal n)
decimal_digits n small = digits_only (decimal n) (decimal_is_IsNumeral n small).0.1

-- digits are digits by the test
all_digits : (ds : List ℕ) → AllByRecursion IsDigit ds → list_all is_ascii_digit ds ≡ true
all_digits [] all = refl
all_digits (d ∷ ds) all = and_from _ _ (and_from _ _ (le-leb 48 d all.0.0) (le-leb d 57 all.0.1)) (all_digits ds all.1)

-- the value of digits is gathered one after another
folds : FoldsDigits (λ n ds. fold (λ m c. m * 10 + (c - 48)) n ds)
folds = record { empty = λ n. refl; more = λ n c cs is. refl }

-- the value of a written number is the number
value_back : (n : ℕ) → n < 2 ^ 64 → digits_value (decimal n) ≡ n
value_back n small = digits_value-decimal (numerals_by_fold (AllDigits 10) tells_digits _ folds) n small

-- a written number of at most 19 digits is read as it
magnitude_back : (n : ℕ) → n < 10 ^ 19 → magnitude_of (decimal n) ≡ Some n
magnitude_back n small =
    let some : 0 < length (decimal n) = (decimal_is_IsNumeral n (omega arith)).0.0 in
    let short : length (decimal n) ≤ 19 = length-decimal-le 19 n (omega arith) small (omega arith) in
    rw (and_from _ _ (and_from _ _ (lt-ltb 0 (length (decimal n)) some) (le-leb (length (decimal n)) 19 short))
    (all_digits (decimal n) (decimal_digits n (omega arith))))
    (ap Some (value_back n (omega arith)))

-- ## A number is a digit or a minus, and then digits

-- a byte from the minus up to the digits
abbrev pub IsNumeralByte : ℕ → Type 0
IsNumeralByte b = (45 ≤ b) × (b ≤ 57)

-- a word of such bytes, and of at least one
abbrev pub IsNumeral : List ℕ → Type 0
IsNumeral w = (0 < length w) × AllByRecursion IsNumeralByte w

-- digits are such bytes
of_digits : (ds : List ℕ) → AllByRecursion IsDigit ds → AllByRecursion IsNumeralByte ds
of_digits ds all = all_map IsDigit IsNumeralByte ds (λ b is. (omega (arith, is.0), is.1)) all

-- a written number is such a word
pub numeral_decimal : (n : ℕ) → n < 10 ^ 19 → IsNumeral (decimal n)
numeral_decimal n small = ((decimal_is_IsNumeral n (omega arith)).0.0, of_digits (decimal n) (decimal_digits n (omega arith)))

-- a number that is no more than the greatest value has at most 19 digits
pub few_digits : (n : ℕ) → pos n ≤ℤ MOST_VALUE → n < 10 ^ 19
few_digits n high = omega (arith, ints)

-- and one below 0 that is no less than the least value has, its sign aside, at most 19 digits
few_digits_below : (n : ℕ) → LEAST_VALUE ≤ℤ negsuc n → suc n < 10 ^ 19
few_digits_below n low = omega (arith, ints)

-- a written value is such a word
pub numeral_signed : (z : ℤ) → IsValue z → IsNumeral (signed_decimal z)
numeral_signed (pos n) is = numeral_decimal n (few_digits n is.1)
numeral_signed (negsuc n) is =
    let digits = numeral_decimal (suc n) (few_digits_below n is.0) in
    (omega arith, ((omega arith, omega arith), digits.1))

-- such a word is a word of a line
pub numeral_is_word : (w : List ℕ) → IsNumeral w → IsWord w
numeral_is_word w is = (
  is.0,
  all_map IsNumeralByte IsWordByte w (λ b h. (omega (arith, h.0), omega (arith, h.1), λ e. omega (arith, h.0)))
      is.1,
)

-- the first of some digits is at least the byte of 0
first_is_digit : (ds : List ℕ) → 0 < length ds → AllByRecursion IsDigit ds → (d : ℕ) × ((rest : List ℕ) × (ds ≡ d ∷ rest) × (48 ≤ d))
first_is_digit [] some all = absurd (omega arith)
first_is_digit (d ∷ ds) some all = (d, (ds, refl, all.0.0))

-- a number from 0 on begins with a digit
pub begins_with_digit : (n : ℕ) → n < 10 ^ 19 → (d : ℕ) × ((rest : List ℕ) × (decimal n ≡ d ∷ rest) × (48 ≤ d))
begins_with_digit n small = first_is_digit (decimal n) (decimal_is_IsNumeral n (omega arith)).0.0 (decimal_digits n (omega arith))

-- ## They are read back

-- digits without a sign are read as their number
no_sign : (ds : List ℕ) → 0 < length ds → AllByRecursion IsDigit ds → signed_of ds ≡ option_map pos (magnitude_of ds)
no_sign [] some all = absurd (omega arith)
no_sign (d ∷ ds) some all =
    cond-false (eqb d 45) (option_map (λ n. neg_ℤ (pos n)) (magnitude_of ds)) (option_map pos (magnitude_of (d ∷ ds)))
    (ne_eqb d 45 (λ e. omega (arith, all.0)))

-- a written number is read as an integer with that value
signed_decimal_back : (n : ℕ) → n < 10 ^ 19 → signed_of (decimal n) ≡ Some (pos n)
signed_decimal_back n small =
    no_sign (decimal n) (decimal_is_IsNumeral n (omega arith)).0.0 (decimal_digits n (omega arith))
    ∙ ap (option_map pos) (magnitude_back n small)

-- what is at least another is not less, as a test
not_under : (a b : ℤ) → a ≤ℤ b → int_lt b a ≡ false
not_under a b le = grind (arith, ints)

-- a word that is read as an integer within bounds is so as a number of those bounds
within : (least most z : ℤ) (word : List ℕ) → least ≤ℤ z → z ≤ℤ most → signed_of word ≡ Some z → number_of least most word ≡ Some z
within least most z word low high is =
    let bounded : Option ℤ → Option ℤ = option_and_then (λ y. if not (int_lt y least) && not (int_lt most y) then Some y else None) in
    ap bounded is ∙ rw (not_under least z low, not_under z most high) refl

-- a written number that is at most the greatest is read as it
pub natural_back : (most n : ℕ) → n ≤ most → n < 10 ^ 19 → natural_in most (decimal n) ≡ Ok n
natural_back most n high small =
    ap not_negative (within (pos 0) (pos most) (pos n) (decimal n) (omega (arith, ints)) (omega (arith, ints))
    (signed_decimal_back n small))

-- a written value is read as it
signed_back : (z : ℤ) → IsValue z → signed_of (signed_decimal z) ≡ Some z
signed_back (pos n) is = signed_decimal_back n (few_digits n is.1)
signed_back (negsuc n) is = ap (option_map (λ m. neg_ℤ (pos m))) (magnitude_back (suc n) (few_digits_below n is.0))

-- also where any value may stand
pub value_back_in : (z : ℤ) → IsValue z → value_in (signed_decimal z) ≡ Ok z
value_back_in z is = ap found (within LEAST_VALUE MOST_VALUE z (signed_decimal z) is.0 is.1 (signed_back z is))
