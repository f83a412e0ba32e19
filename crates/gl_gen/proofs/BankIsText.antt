-- The bank's text says the bank.
use Rattle.std.proofs.Common.{◌≡◌, ℕ, pos, ◌*◌, ◌<◌, ◌≤◌, nat_lt, nat_le, Bool, true, false, ◌&&◌, List, [], ◌∷◌, ◌++◌, codes, drop, length, refl, ap, ◌∙◌, arith, length-append, lit<, lit≤}
use Rattle.std.specs.Fmt.{decimal, digits}
use Rattle.std.specs.List.{AllByRecursion, flat_map, list_all, range_with_len}
use Rattle.std.specs.Str.Lines.{lines}
use Rattle.std.proofs.lemmas.Bool.Decides.{nat_tests}
use Rattle.std.proofs.lemmas.Fmt.{length-decimal-le}
use Rattle.std.proofs.lemmas.Int.{ints}
use Rattle.std.proofs.lemmas.Bool.{and_parts, leb-true}
use Rattle.gl_asm.specs.declared.limits.TheConstants.{LONGEST}
use Rattle.gl_asm.specs.Listable.{IsValue}
use Rattle.gl_asm.specs.Texts.{IsText, lines_read}
use Rattle.gl_text.proofs.WordLines.{AreWords, IsPlain, IsWordByte, all_append, all_map, ended, lines_of_ended, not_bad, plain_indented, words_indented}
use Rattle.gl_asm.proofs.ListedNumbers.{value_decimal, word_decimal}
use Rattle.gl_gen.specs.Bank.{bank_program}
use Rattle.gl_gen.specs.BankText.{Line, bank_lines, bank_text, main_lines, transfer_lines}
use Rattle.gl_gen.proofs.BankIsRight.{bank_is_faultless}
use Rattle.gl_gen.proofs.BankReads.{SaysPush, lines_say}
use Rattle.gl_asm.proofs.ListedProgram.{read_short}

-- ## Lines that are plain and short

-- a line that is read back, and of 20 bytes at most
abbrev IsFine : Line → Type 0
IsFine line = IsPlain line × (length line ≤ 20)

-- a test for lines that are read back and have 20 bytes at most
abbrev is_fine : Line → Bool
is_fine line = list_all (λ b. nat_le 32 b && nat_le b 126) line && nat_le (length line) 20

-- bytes that all pass the test for printable ones make a plain line
plain_bytes : (bytes : List ℕ) → list_all (λ b. nat_le 32 b && nat_le b 126) bytes ≡ true → IsPlain bytes
plain_bytes [] is = tt
plain_bytes (b ∷ bytes) is =
    (let parts = and_parts _ _ is in
    let here = and_parts _ _ parts.0 in
    ((leb-true 32 b here.0, leb-true b 126 here.1), plain_bytes bytes parts.1))

-- a line that passes the test is fine
fine : (line : Line) → is_fine line ≡ true → IsFine line
fine line is = (plain_bytes line (and_parts _ _ is).0, leb-true (length line) 20 (and_parts _ _ is).1)

-- lines that all pass the test are fine
all_fine : (ls : List Line) → list_all is_fine ls ≡ true → AllByRecursion IsFine ls
all_fine [] is = tt
all_fine (line ∷ ls) is = (fine line (and_parts _ _ is).0, all_fine ls (and_parts _ _ is).1)

-- fine lines take 21 bytes each at most, with their line feeds
length_of_fine : (ls : List Line) → AllByRecursion IsFine ls → length (flat_map ended ls) ≤ 21 * length ls
length_of_fine [] all = omega arith
length_of_fine (line ∷ ls) all =
    let short = all.0.1 in
    let whole = length-append (ended line) (flat_map ended ls) in
    let first = length-append line (codes "\n") in
    let others = length_of_fine ls all.1 in
    omega arith

-- ## The line with the number of transfers

-- a printable byte after the sign that starts a comment may stand in a word
word_byte : (b : ℕ) → 35 < b → b ≤ 126 → IsWordByte b
word_byte b low high = (omega arith, omega arith, λ e. omega arith)

-- `push` and a number of transfers are words
push_words : (n : ℕ) → n ≤ 65535 → AreWords (codes "push" ∷ decimal n ∷ [])
push_words n small = (
  (
    lit< tt,
    (
      word_byte 112 (lit< tt) (lit≤ tt),
      (word_byte 117 (lit< tt) (lit≤ tt), (word_byte 115 (lit< tt) (lit≤ tt), (word_byte 104 (lit< tt) (lit≤ tt), tt))),
    ),
  ),
  (word_decimal n (omega arith), tt),
)

-- a number of transfers is a value
number_fits : (n : ℕ) → n ≤ 65535 → IsValue (pos n)
number_fits n small = (omega (arith, ints), omega (arith, ints))

-- the line that pushes the number of transfers says so
push_says : (n : ℕ) → n ≤ 65535 → SaysPush n (codes "  push " ++ decimal n)
push_says n small =
    let ws : List (List ℕ) = codes "push" ∷ decimal n ∷ [] in
    record {
      word = decimal n;
      good = not_bad (codes "  push " ++ decimal n) (plain_indented ws (push_words n small));
      words_are = words_indented ws (push_words n small);
      value = value_decimal (pos n) (number_fits n small);
    }

-- the line that pushes the number of transfers is fine
push_fine : (n : ℕ) → n ≤ 65535 → IsFine (codes "  push " ++ decimal n)
push_fine n small =
    let digits_of = length-decimal-le 5 n (omega arith) (omega arith) (omega arith) in
    let whole = length-append (codes "  push ") (decimal n) in
    (plain_indented (codes "push" ∷ decimal n ∷ []) (push_words n small), omega arith)

-- ## All lines

-- the lines of the class and of main
abbrev head : List Line
head = codes "class Bank 8 0" ∷ main_lines

-- the lines of the class and of main are fine
head_fine : AllByRecursion IsFine head
unfolding digits
head_fine = all_fine head refl

-- the lines of an account's function, but the one with the number
abbrev header_line : ℕ → Line
header_line k = codes "func w" ++ (decimal k ++ codes " 1 2")

-- the lines of an account's function after the one with the number
abbrev code_lines : ℕ → List Line
code_lines k = drop 2 (transfer_lines 0 k)

-- the lines of an account's function pass the test, but the one with the number
abbrev AreFine : ℕ → Type 0
AreFine k = (is_fine (header_line k) ≡ true) × (list_all is_fine (code_lines k) ≡ true)

-- the lines of all eight accounts' functions pass the test, but those with the number
transfers_fine : AreFine 0 × AreFine 1 × AreFine 2 × AreFine 3 × AreFine 4 × AreFine 5 × AreFine 6 × AreFine 7
unfolding digits
transfers_fine = ((refl, refl), (refl, refl), (refl, refl), (refl, refl), (refl, refl), (refl, refl), (refl, refl), (refl, refl))

-- the lines of an account's function are fine, where they pass the test but for the one with the number
transfer_fine : (n k : ℕ) → n ≤ 65535 → AreFine k → AllByRecursion IsFine (transfer_lines n k)
transfer_fine n k small are = (fine (header_line k) are.0, (push_fine n small, all_fine (code_lines k) are.1))

-- all lines of the bank are fine
lines_fine : (n : ℕ) → n ≤ 65535 → AllByRecursion IsFine (bank_lines n)
lines_fine n small =
    let t : ℕ → List Line = transfer_lines n in
    let of : ℕ → ℕ → List Line = λ k many. flat_map t (range_with_len k many) in
    let are = transfers_fine in
    all_append IsFine head (of 0 8) head_fine
    (all_append IsFine (t 0) (of 1 7) (transfer_fine n 0 small are.0)
    (all_append IsFine (t 1) (of 2 6) (transfer_fine n 1 small are.1)
    (all_append IsFine (t 2) (of 3 5) (transfer_fine n 2 small are.2)
    (all_append IsFine (t 3) (of 4 4) (transfer_fine n 3 small are.3)
    (all_append IsFine (t 4) (of 5 3) (transfer_fine n 4 small are.4)
    (all_append IsFine (t 5) (of 6 2) (transfer_fine n 5 small are.5)
    (all_append IsFine (t 6) (of 7 1) (transfer_fine n 6 small are.6) (all_append IsFine (t 7) [] (transfer_fine n 7 small are.7) tt))))))))

-- ## The text

-- what is at most as great does not pass the test for greater
not_over : (a b : ℕ) → b ≤ a → nat_lt a b ≡ false
not_over a b most = grind (arith, nat_tests)

-- the bank's text is a text of the bank, with no inputs, up to the greatest number of transfers
pub bank_is_text : (n : ℕ) → n ≤ 65535 → IsText (bank_text n) (bank_program n) []
bank_is_text n small =
    let are = lines_fine n small in
    let many : length (bank_lines n) ≡ 277 = refl in
    let at_most_lines = length_of_fine (bank_lines n) are in
    let short : length (bank_text n) ≤ LONGEST = omega arith in
    let plain = all_map IsFine IsPlain (bank_lines n) (λ line is. is.0) are in
    let same : lines (bank_text n) ≡ bank_lines n = lines_of_ended (bank_lines n) plain in
    record {
      read = read_short (bank_text n) short ∙ ap lines_read same ∙ lines_say n (push_says n small);
      faultless = bank_is_faultless n;
    }
