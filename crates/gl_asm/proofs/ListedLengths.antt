-- How long the lines of a listing are.
use Rattle.std.proofs.Common.{◌≡◌, ◌+◌, ◌≤◌, ℕ, ℤ, pos, negsuc, suc, List, [], ◌∷◌, ◌++◌, codes, length, arith, length-append}
use Rattle.std.specs.Fmt.{decimal, signed_decimal}
use Rattle.std.proofs.lemmas.Fmt.{length-decimal-le}
use Rattle.gl_bytecode.specs.declared.instr.Catch.{Catch}
use Rattle.gl_bytecode.specs.declared.instr.Instr.{Instr}
use Rattle.gl_bytecode.specs.declared.object.Fields.{Fields}
use Rattle.gl_asm.specs.declared.limits.TheConstants.{MOST_INDEX}
use Rattle.gl_asm.specs.declared.table.Operand.{Operand}
use Rattle.gl_asm.specs.declared.table.Operand.TheVariants.{Nothing, Value, Index, IndexAndValue, Code, Label, Function, Class}
use Rattle.gl_asm.specs.Listing.{function_name, label_name}
use Rattle.gl_asm.specs.Words.{operand_of, word_of}
use Rattle.gl_text.proofs.WordLines.{indented, spaced}
use Rattle.gl_asm.proofs.ListedNames.{class_name, of_function}
use Rattle.gl_asm.specs.Listable.{IsValue}
use Rattle.gl_asm.proofs.ListedNumbers.{few_digits, few_digits_below}
use Rattle.gl_asm.proofs.ListedWords.{Fits, catch_words, class_words, header_words, instr_words, label_words, operand_words, short_keyword}

-- one word more before others makes a line longer by the word and one blank
one_longer : (w v : List ℕ) (ws : List (List ℕ)) → length (spaced (w ∷ v ∷ ws)) ≡ length w + (1 + length (spaced (v ∷ ws)))
one_longer w v ws = omega (arith, length-append w (codes " " ++ spaced (v ∷ ws)))

-- an index is written with five digits at most
short_number : (n : ℕ) → n ≤ MOST_INDEX → length (decimal n) ≤ 5
short_number n small = length-decimal-le 5 n (omega arith) (omega arith) (omega arith)

-- an integer of 64 bits is written with 20 bytes at most
short_value : (z : ℤ) → IsValue z → length (signed_decimal z) ≤ 20
short_value (pos n) is = omega (arith, length-decimal-le 19 n (omega arith) (few_digits n is.1) (omega (arith, few_digits n is.1)))
short_value (negsuc n) is =
    omega (arith, length-decimal-le 19 (suc n) (omega arith) (few_digits_below n is.0) (omega (arith, few_digits_below n is.0)))

-- a function's name in a listing is six bytes at most
short_function : (main f : ℕ) → f ≤ MOST_INDEX → length (function_name main f) ≤ 6
short_function main f small = of_function (λ name. length name ≤ 6) main f (omega arith) (omega (arith, short_number f small))

-- three words behind a first one
four_words : (first a b c : List ℕ) → length (spaced (first ∷ a ∷ b ∷ c ∷ [])) ≡ length first + length a + length b + length c + 3
four_words first a b c =
    omega (arith, one_longer first a (b ∷ c ∷ []), one_longer a b (c ∷ []), one_longer b c [])

-- a class's line is 24 bytes at most
pub class_length : (c : ℕ) (fields : Fields) → c ≤ MOST_INDEX → fields.plain ≤ MOST_INDEX → fields.volatile ≤ MOST_INDEX
    → length (spaced (class_words c fields)) ≤ 24
class_length c fields small plain volatile =
    omega (
      arith,
      four_words (codes "class") (class_name c) (decimal fields.plain) (decimal fields.volatile),
      short_number c small,
      short_number fields.plain plain,
      short_number fields.volatile volatile,
    )

-- a function's header is 23 bytes at most
pub header_length : (main f args locals : ℕ) → f ≤ MOST_INDEX → args ≤ MOST_INDEX → locals ≤ MOST_INDEX
    → length (spaced (header_words main f args locals)) ≤ 23
header_length main f args locals small few short =
    omega (
      arith,
      four_words (codes "func") (function_name main f) (decimal args) (decimal locals),
      short_function main f small,
      short_number args few,
      short_number locals short,
    )

-- a label's line is seven bytes at most
pub label_length : (at : ℕ) → at ≤ MOST_INDEX → length (spaced (label_words at)) ≤ 7
label_length at small = omega (arith, length-append (label_name at) (codes ":"), short_number at small)

-- a catch's line is 28 bytes at most
pub catch_length : (c : Catch) → c.from ≤ MOST_INDEX → c.to ≤ MOST_INDEX → c.target ≤ MOST_INDEX → length (indented (catch_words c)) ≤ 28
catch_length c from to target =
    omega (
      arith,
      four_words (codes "catch") (label_name c.from) (label_name c.to) (label_name c.target),
      short_number c.from from,
      short_number c.to to,
      short_number c.target target,
    )

-- a word of seven bytes at most takes 34 with its operands, where they fit
operand_length : (main : ℕ) (word : List ℕ) (o : Operand) → length word ≤ 7 → Fits o → length (spaced (word ∷ operand_words main o)) ≤ 34
operand_length main word Nothing short fits = omega arith
operand_length main word (Value n) short fits = omega (arith, one_longer word (signed_decimal n) [], short_value n fits)
operand_length main word (Index k) short fits = omega (arith, one_longer word (decimal k) [], short_number k fits)
operand_length main word (IndexAndValue k n) short fits =
    omega (
      arith,
      one_longer word (decimal k) (signed_decimal n ∷ []),
      one_longer (decimal k) (signed_decimal n) [],
      short_number k fits.0,
      short_value n fits.1,
    )
operand_length main word (Code code) short fits =
    omega (arith, one_longer word (decimal code) [], short_number code (omega (arith, fits.1)))
operand_length main word (Label to) short fits = omega (arith, one_longer word (label_name to) [], short_number to fits)
operand_length main word (Function f) short fits = omega (arith, one_longer word (function_name main f) [], short_function main f fits)
operand_length main word (Class c) short fits = omega (arith, one_longer word (class_name c) [], short_number c fits)

-- an instruction's line is 36 bytes at most, where its operands fit
pub instr_length : (main : ℕ) (i : Instr) → Fits (operand_of i) → length (indented (instr_words main i)) ≤ 36
instr_length main i fits = omega (arith, operand_length main (word_of i) (operand_of i) (short_keyword i) fits)
