-- Names that a listing makes of numbers.
use Rattle.std.proofs.Common.{◌≡◌, ◌≢◌, ◌-◌, ◌≤◌, ℕ, List, [], ◌∷◌, ◌++◌, true, eqb, codes, bytes_eq, drop, length, take, get_or, inl, inr, Some, None, refl, ap, sym, ◌∙◌, arith, length-append}
use Rattle.std.specs.Prelude.{◌==◌, if◌then◌else◌}
use Rattle.std.specs.Char.{is_ascii_alphabetic}
use Rattle.std.specs.List.{AllByRecursion, list_all}
use Rattle.std.specs.Fmt.{decimal}
use Rattle.std.proofs.lemmas.Bool.{and_from, cases_eq, cond-false, cond-true, eq-eqb, le-leb, ne_eqb, or_left, false_from_ne_true}
use Rattle.std.proofs.lemmas.Fmt.{decimal_injective, length-decimal-le}
use Rattle.std.proofs.lemmas.Slice.Eq.{bytes_eq-Decides}
use Rattle.std.proofs.Math.Seq.{take-append_seam, get_or-append_seam}
use Rattle.gl_asm.specs.declared.limits.TheConstants.{MOST_INDEX, NAME_TAIL}
use Rattle.gl_asm.specs.Listing.{function_name, label_name}
use Rattle.gl_asm.specs.declared.names.TheConstants.{COLON}
use Rattle.gl_asm.specs.Names.{is_name, is_name_byte, label_of}
use Rattle.gl_text.proofs.WordLines.{IsWord, IsWordByte, all_append}
use Rattle.gl_asm.proofs.ListedNumbers.{IsDigit, decimal_digits, word_decimal}

-- the name of a class in a listing: `c` and its number
abbrev pub class_name : ℕ → List ℕ
class_name c = codes "c" ++ decimal c

-- a name with its colon, as a label's line has it
abbrev pub colon : List ℕ → List ℕ
colon name = name ++ codes ":"

-- ## They are names

-- a digit may stand in a name
digit_in_name : (b : ℕ) → IsDigit b → is_name_byte b ≡ true
digit_in_name b is = or_left _ _ (or_left _ _ (or_left _ _ (and_from _ _ (le-leb 48 b is.0) (le-leb b 57 is.1))))

-- digits may all stand in a name
digits_in_name : (ds : List ℕ) → AllByRecursion IsDigit ds → list_all is_name_byte ds ≡ true
digits_in_name [] all = refl
digits_in_name (d ∷ ds) all = and_from _ _ (digit_in_name d all.0) (digits_in_name ds all.1)

-- the digits of an index are no more than may follow a name's first letter
short_tail : (n : ℕ) → n ≤ MOST_INDEX → length (decimal n) ≤ NAME_TAIL
short_tail n small = omega (arith, length-decimal-le 5 n (omega arith) (omega arith) (omega arith))

-- a letter and the digits of an index are a name
letter_then : (b n : ℕ) → is_ascii_alphabetic b ≡ true → n ≤ MOST_INDEX → is_name (b ∷ decimal n) ≡ true
letter_then b n letter small =
    and_from _ _ (and_from _ _ letter (le-leb (length (decimal n)) NAME_TAIL (short_tail n small)))
    (digits_in_name (decimal n) (decimal_digits n (omega arith)))

-- what a listing calls a label is a name
pub is_label_name : (at : ℕ) → at ≤ MOST_INDEX → is_name (label_name at) ≡ true
is_label_name at small = letter_then 76 at refl small

-- what a listing calls a class is a name
pub is_class_name : (c : ℕ) → c ≤ MOST_INDEX → is_name (class_name c) ≡ true
is_class_name c small = letter_then 99 c refl small

-- the main function is called `main`
pub main_is : (main : ℕ) → function_name main main ≡ codes "main"
main_is main = cond-true (eqb main main) (codes "main") (codes "f" ++ decimal main) (eq-eqb main main refl)

-- a function other than main is called `f` and its number
not_main : (main f : ℕ) → f ≢ main → function_name main f ≡ codes "f" ++ decimal f
not_main main f other = cond-false (eqb f main) (codes "main") (codes "f" ++ decimal f) (ne_eqb f main other)

-- what holds of `main` and of `f` with a number holds of a function's name
pub of_function : (P : List ℕ → Type 0) (main f : ℕ) → P (codes "main") → P (codes "f" ++ decimal f) → P (function_name main f)
of_function P main f first other =
    elim (cases_eq f main) [
      | inl same ↦ rw same (rw (main_is main) first)
      | inr e ↦ rw (not_main main f e) other
    ]

-- what a listing calls a function is a name
pub is_function_name : (main f : ℕ) → f ≤ MOST_INDEX → is_name (function_name main f) ≡ true
is_function_name main f small = of_function (λ name. is_name name ≡ true) main f refl (letter_then 102 f refl small)

-- ## They are words

-- a byte of a word and the digits of an index are a word
letter_word : (b n : ℕ) → IsWordByte b → n ≤ MOST_INDEX → IsWord (b ∷ decimal n)
letter_word b n is small = (omega arith, (is, (word_decimal n (omega arith)).1))

-- a label's name is a word
pub word_label : (at : ℕ) → at ≤ MOST_INDEX → IsWord (label_name at)
word_label at small = letter_word 76 at (omega arith, omega arith, λ e. omega arith) small

-- a class's name is a word
pub word_class : (c : ℕ) → c ≤ MOST_INDEX → IsWord (class_name c)
word_class c small = letter_word 99 c (omega arith, omega arith, λ e. omega arith) small

-- a function's name is a word
pub word_function : (main f : ℕ) → f ≤ MOST_INDEX → IsWord (function_name main f)
word_function main f small =
    of_function IsWord main f (omega arith) (letter_word 102 f (omega arith, omega arith, λ e. omega arith) small)

-- a word with a colon is a word
pub word_colon : (name : List ℕ) → IsWord name → IsWord (colon name)
word_colon name is = (
  omega (arith, is.0, length-append name (codes ":")),
  all_append IsWordByte name (codes ":") is.1
      ((omega arith, omega arith, λ e. omega arith), tt),
)

-- ## Labels' lines

-- a name with a colon is read as the label of that name
pub label_of_colon : (name : List ℕ) → label_of (colon name) ≡ Some name
label_of_colon name =
    let last : length (colon name) - 1 ≡ length name = omega (arith, length-append name (codes ":")) in
    ap (λ n. if get_or (colon name) n 0 == COLON then Some (take n (colon name)) else None) last
    ∙ rw (get_or-append_seam name COLON [] 0) (ap Some (take-append_seam name (codes ":")))

-- ## Other numbers have other names

-- where the names of two indices are equal that start with the same letter, the indices are
same_behind : (b m n : ℕ) → m ≤ MOST_INDEX → n ≤ MOST_INDEX → b ∷ decimal m ≡ b ∷ decimal n → m ≡ n
same_behind b m n small less same = decimal_injective m n (omega arith) (omega arith) (ap (drop 1) same)

-- labels of the same name are at the same place
same_label : (a b : ℕ) → a ≤ MOST_INDEX → b ≤ MOST_INDEX → label_name a ≡ label_name b → a ≡ b
same_label a b small less same = same_behind 76 a b small less same

-- classes of the same name have the same number
same_class : (a b : ℕ) → a ≤ MOST_INDEX → b ≤ MOST_INDEX → class_name a ≡ class_name b → a ≡ b
same_class a b small less same = same_behind 99 a b small less same

-- `main` is no name of `f` and a number
apart : (f : ℕ) → codes "main" ≢ codes "f" ++ decimal f
apart f same = omega (arith, ap (λ l. get_or l 0 0) same)

-- functions of the same name have the same number
same_function : (main f g : ℕ) → f ≤ MOST_INDEX → g ≤ MOST_INDEX → function_name main f ≡ function_name main g → f ≡ g
same_function main f g small less same =
    elim (cases_eq f main) [
      | inl e ↦ elim (cases_eq g main) [
        | inl d ↦ e ∙ sym d
        | inr d ↦ absurd (apart g (sym (main_is main) ∙ ap (function_name main) (sym e) ∙ same ∙ not_main main g d))
      ]
      | inr e ↦ elim (cases_eq g main) [
        | inl d ↦ absurd (apart f (sym (main_is main) ∙ ap (function_name main) (sym d) ∙ sym same ∙ not_main main f e))
        | inr d ↦ same_behind 102 f g small less (sym (not_main main f e) ∙ same ∙ not_main main g d)
      ]
    ]

-- ## Names compared

-- where equal names mean equal numbers, names compare as their numbers do
compared : (name : ℕ → List ℕ) (a b : ℕ) → (name a ≡ name b → a ≡ b) → bytes_eq (name a) (name b) ≡ eqb a b
compared name a b same =
    let test = bytes_eq-Decides (name a) (name b) in
    elim (cases_eq a b) [
      | inl e ↦ test.1 (ap name e) ∙ sym (eq-eqb a b e)
      | inr e ↦ false_from_ne_true (bytes_eq (name a) (name b)) (λ yes. e (same (test.0 yes))) ∙ sym (ne_eqb a b e)
    ]

-- the names of labels compare as their places do
pub eq_label : (a b : ℕ) → a ≤ MOST_INDEX → b ≤ MOST_INDEX → bytes_eq (label_name a) (label_name b) ≡ eqb a b
eq_label a b small less = compared label_name a b (same_label a b small less)

-- the names of classes compare as their numbers do
pub eq_class : (a b : ℕ) → a ≤ MOST_INDEX → b ≤ MOST_INDEX → bytes_eq (class_name a) (class_name b) ≡ eqb a b
eq_class a b small less = compared class_name a b (same_class a b small less)

-- the names of functions compare as their numbers do
pub eq_function : (main f g : ℕ) → f ≤ MOST_INDEX → g ≤ MOST_INDEX → bytes_eq (function_name main f) (function_name main g) ≡ eqb f g
eq_function main f g small less = compared (function_name main) f g (same_function main f g small less)
