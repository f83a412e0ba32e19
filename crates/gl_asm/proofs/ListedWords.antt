-- The words of a listing's lines, and the forms that they tell.
use Rattle.std.proofs.Common.{◌≡◌, ◌≤◌, ℕ, pos, List, [], ◌∷◌, ◌++◌, Bool, true, ◌&&◌, nat_lt, codes, nat_le, is_some, Some, refl, ap, sym, ◌∙◌, arith, append_assoc, length}
use Rattle.std.specs.Prelude.{if◌then◌else◌}
use Rattle.std.specs.List.{AllByRecursion, list_all}
use Rattle.std.proofs.lemmas.Bool.{and_parts, leb-true, ltb-true}
use Rattle.std.specs.Fmt.{decimal, signed_decimal}
use Rattle.gl_bytecode.specs.declared.instr.Catch.{Catch}
use Rattle.gl_bytecode.specs.declared.instr.Instr.{Instr}
use Rattle.gl_bytecode.specs.declared.instr.Instr.TheVariants.{Push, Pop, Dup, Swap, Load, Store, Inc, Add, Sub, Mul, Div, Rem, Neg, Eq, Lt, Le, Not, And, Or, Xor, Jump, Jz, Jnz, Call, Ret, Halt, Throw, Nop, New, Get, Put, Vget, Vput, Enter, Exit, Fork, Join, SelfId, Txbegin, Commit, Print, Input}
use Rattle.gl_bytecode.specs.declared.limits.TheConstants.{LEAST_THROWN, MOST_THROWN}
use Rattle.gl_bytecode.specs.declared.object.Fields.{Fields}
use Rattle.gl_asm.specs.declared.forms.Form.TheVariants as forms
use Rattle.gl_asm.specs.declared.limits.TheConstants.{MOST_INDEX}
use Rattle.gl_asm.specs.declared.table.Operand.{Operand}
use Rattle.gl_asm.specs.declared.table.Operand.TheVariants.{Nothing, Value, Index, IndexAndValue, Code, Label, Function as OfFunction, Class}
use Rattle.gl_asm.specs.Forms.{form_of, word_form}
use Rattle.gl_asm.specs.Listing.{catch_line, class_line, function_name, header, instr_line, label_line, label_name, operand_text}
use Rattle.gl_asm.specs.Words.{filled, operand_of, word_of}
use Rattle.gl_text.proofs.WordLines.{AreWords, IsWord, IsWordByte, ended, indented, spaced}
use Rattle.gl_asm.proofs.ListedNames.{class_name, colon, label_of_colon, word_class, word_colon, word_function, word_label}
use Rattle.gl_asm.specs.Listable.{IsValue}
use Rattle.gl_asm.proofs.ListedNumbers.{word_decimal, word_signed}

-- ## The words of lines

-- the words of an operand
abbrev pub operand_words : ℕ → Operand → List (List ℕ)
operand_words main Nothing = []
operand_words main (Value n) = signed_decimal n ∷ []
operand_words main (Index k) = decimal k ∷ []
operand_words main (IndexAndValue k n) = decimal k ∷ signed_decimal n ∷ []
operand_words main (Code code) = decimal code ∷ []
operand_words main (Label to) = label_name to ∷ []
operand_words main (OfFunction f) = function_name main f ∷ []
operand_words main (Class c) = class_name c ∷ []

-- the words of an instruction's line
abbrev pub instr_words : ℕ → Instr → List (List ℕ)
instr_words main i = word_of i ∷ operand_words main (operand_of i)

-- the words of a class's line
abbrev pub class_words : ℕ → Fields → List (List ℕ)
class_words c fields = codes "class" ∷ class_name c ∷ decimal fields.plain ∷ decimal fields.volatile ∷ []

-- the words of a function's header
abbrev pub header_words : ℕ → ℕ → ℕ → ℕ → List (List ℕ)
header_words main f args locals = codes "func" ∷ function_name main f ∷ decimal args ∷ decimal locals ∷ []

-- the word of a label's line
abbrev pub label_words : ℕ → List (List ℕ)
label_words at = colon (label_name at) ∷ []

-- the words of a catch's line
abbrev pub catch_words : Catch → List (List ℕ)
catch_words c = codes "catch" ∷ label_name c.from ∷ label_name c.to ∷ label_name c.target ∷ []

-- ## The lines are those words

-- an instruction's word and its operand's text make the line of its words
operand_line : (main : ℕ) (word : List ℕ) (o : Operand) → word ++ (operand_text main o ++ codes "\n")
    ≡ ended (spaced (word ∷ operand_words main o))
operand_line main word Nothing = refl
operand_line main word (Value n) = sym (append_assoc word (codes " " ++ signed_decimal n) (codes "\n"))
operand_line main word (Index k) = sym (append_assoc word (codes " " ++ decimal k) (codes "\n"))
operand_line main word (IndexAndValue k n) =
    sym (append_assoc word (codes " " ++ (decimal k ++ (codes " " ++ signed_decimal n))) (codes "\n"))
operand_line main word (Code code) = sym (append_assoc word (codes " " ++ decimal code) (codes "\n"))
operand_line main word (Label to) = sym (append_assoc word (codes " " ++ label_name to) (codes "\n"))
operand_line main word (OfFunction f) = sym (append_assoc word (codes " " ++ function_name main f) (codes "\n"))
operand_line main word (Class c) = sym (append_assoc word (codes " " ++ class_name c) (codes "\n"))

-- an instruction's line in a listing is its words with blanks between and before them
pub instr_line_is : (main : ℕ) (i : Instr) → instr_line main i ≡ ended (indented (instr_words main i))
instr_line_is main i = ap (λ l. codes "  " ++ l) (operand_line main (word_of i) (operand_of i))

-- three words behind a first one
three_line : (first a b c : List ℕ)
    → first ++ (codes " " ++ (a ++ (codes " " ++ (b ++ (codes " " ++ (c ++ codes "\n")))))) ≡ ended (spaced (first ∷ a ∷ b ∷ c ∷ []))
three_line first a b c =
    ap (λ l. first ++ (codes " " ++ l)) (ap (λ l. a ++ (codes " " ++ l)) (sym (append_assoc b (codes " " ++ c) (codes "\n")))
    ∙ sym (append_assoc a (codes " " ++ (b ++ (codes " " ++ c))) (codes "\n")))
    ∙ sym (append_assoc first (codes " " ++ (a ++ (codes " " ++ (b ++ (codes " " ++ c))))) (codes "\n"))

-- a class's line in a listing is its words with blanks between
pub class_line_is : (c : ℕ) (fields : Fields) → class_line c fields ≡ ended (spaced (class_words c fields))
class_line_is c fields = three_line (codes "class") (class_name c) (decimal fields.plain) (decimal fields.volatile)

-- a function's header in a listing is its words with blanks between
pub header_is : (main f args locals : ℕ) → header main f args locals ≡ ended (spaced (header_words main f args locals))
header_is main f args locals = three_line (codes "func") (function_name main f) (decimal args) (decimal locals)

-- a label's line in a listing is its one word
pub label_line_is : (at : ℕ) → label_line true at ≡ ended (spaced (label_words at))
label_line_is at = sym (append_assoc (label_name at) (codes ":") (codes "\n"))

-- a catch's line in a listing is its words with blanks between and before them
pub catch_line_is : (c : Catch) → catch_line c ≡ ended (indented (catch_words c))
catch_line_is c = ap (λ l. codes "  " ++ l) (three_line (codes "catch") (label_name c.from) (label_name c.to) (label_name c.target))

-- ## They are words

-- an operand is within what a line may say
abbrev pub Fits : Operand → Type 0
Fits Nothing = Unit {0}
Fits (Value n) = IsValue n
Fits (Index k) = k ≤ MOST_INDEX
Fits (IndexAndValue k n) = (k ≤ MOST_INDEX) × IsValue n
Fits (Code code) = (LEAST_THROWN ≤ code) × (code ≤ MOST_THROWN)
Fits (Label to) = to ≤ MOST_INDEX
Fits (OfFunction f) = f ≤ MOST_INDEX
Fits (Class c) = c ≤ MOST_INDEX

-- one to seven small letters
abbrev is_keyword : List ℕ → Bool
is_keyword w = (nat_lt 0 (length w) && nat_le (length w) 7) && list_all (λ b. nat_le 97 b && nat_le b 122) w

-- small letters may all stand in a word
letters : (w : List ℕ) → list_all (λ b. nat_le 97 b && nat_le b 122) w ≡ true → AllByRecursion IsWordByte w
letters [] all = tt
letters (b ∷ bs) all =
    let both = and_parts (nat_le 97 b && nat_le b 122) (list_all (λ x. nat_le 97 x && nat_le x 122) bs) all in
    let here = and_parts (nat_le 97 b) (nat_le b 122) both.0 in
    let low : 97 ≤ b = leb-true 97 b here.0 in
    let high : b ≤ 122 = leb-true b 122 here.1 in
    ((omega arith, omega arith, λ e. omega arith), letters bs both.1)

-- one to seven small letters are a word of seven bytes at most
of_letters : (w : List ℕ) → is_keyword w ≡ true → IsWord w × (length w ≤ 7)
of_letters w is =
    let both = and_parts (nat_lt 0 (length w) && nat_le (length w) 7) (list_all (λ b. nat_le 97 b && nat_le b 122) w) is in
    let long = and_parts (nat_lt 0 (length w)) (nat_le (length w) 7) both.0 in
    ((ltb-true 0 (length w) long.0, letters w both.1), leb-true (length w) 7 long.1)

-- the word of each instruction is one to seven small letters
keyword : (i : Instr) → is_keyword (word_of i) ≡ true
keyword (Push n) = refl
keyword Pop = refl
keyword Dup = refl
keyword Swap = refl
keyword (Load k) = refl
keyword (Store k) = refl
keyword (Inc k n) = refl
keyword Add = refl
keyword Sub = refl
keyword Mul = refl
keyword Div = refl
keyword Rem = refl
keyword Neg = refl
keyword Eq = refl
keyword Lt = refl
keyword Le = refl
keyword Not = refl
keyword And = refl
keyword Or = refl
keyword Xor = refl
keyword (Jump to) = refl
keyword (Jz to) = refl
keyword (Jnz to) = refl
keyword (Call f) = refl
keyword Ret = refl
keyword Halt = refl
keyword (Throw code) = refl
keyword Nop = refl
keyword (New c) = refl
keyword (Get k) = refl
keyword (Put k) = refl
keyword (Vget k) = refl
keyword (Vput k) = refl
keyword Enter = refl
keyword Exit = refl
keyword (Fork f) = refl
keyword Join = refl
keyword SelfId = refl
keyword Txbegin = refl
keyword Commit = refl
keyword Print = refl
keyword Input = refl

-- the word of each instruction has seven bytes at most
pub short_keyword : (i : Instr) → length (word_of i) ≤ 7
short_keyword i = (of_letters (word_of i) (keyword i)).1

-- what an operand that fits is written as is words
operand_are_words : (main : ℕ) (o : Operand) → Fits o → AreWords (operand_words main o)
operand_are_words main Nothing fits = tt
operand_are_words main (Value n) fits = (word_signed n fits, tt)
operand_are_words main (Index k) fits = (word_decimal k (omega arith), tt)
operand_are_words main (IndexAndValue k n) fits = (word_decimal k (omega (arith, fits.0)), (word_signed n fits.1, tt))
operand_are_words main (Code code) fits = (word_decimal code (omega (arith, fits.1)), tt)
operand_are_words main (Label to) fits = (word_label to fits, tt)
operand_are_words main (OfFunction f) fits = (word_function main f fits, tt)
operand_are_words main (Class c) fits = (word_class c fits, tt)

-- what an instruction's line is made of is words, where its operands fit
pub instr_are_words : (main : ℕ) (i : Instr) → Fits (operand_of i) → AreWords (instr_words main i)
instr_are_words main i fits = ((of_letters (word_of i) (keyword i)).0, operand_are_words main (operand_of i) fits)

-- what a class's line is made of is words
pub class_are_words : (c : ℕ) (fields : Fields) → c ≤ MOST_INDEX → fields.plain ≤ MOST_INDEX → fields.volatile ≤ MOST_INDEX
    → AreWords (class_words c fields)
class_are_words c fields small plain volatile = (
  (of_letters (codes "class") refl).0,
  (
    word_class c small,
    (word_decimal fields.plain (omega arith), (word_decimal fields.volatile (omega arith), tt)),
  ),
)

-- what a function's header is made of is words
pub header_are_words : (main f args locals : ℕ) → f ≤ MOST_INDEX → args ≤ MOST_INDEX → locals ≤ MOST_INDEX
    → AreWords (header_words main f args locals)
header_are_words main f args locals small few short = (
  (of_letters (codes "func") refl).0,
  (
    word_function main f small,
    (word_decimal args (omega arith), (word_decimal locals (omega arith), tt)),
  ),
)

-- what a label's line is made of is a word
pub label_are_words : (at : ℕ) → at ≤ MOST_INDEX → AreWords (label_words at)
label_are_words at small = (word_colon (label_name at) (word_label at small), tt)

-- what a catch's line is made of is words
pub catch_are_words : (c : Catch) → c.from ≤ MOST_INDEX → c.to ≤ MOST_INDEX → c.target ≤ MOST_INDEX → AreWords (catch_words c)
catch_are_words c from to target =
    ((of_letters (codes "catch") refl).0, (word_label c.from from, (word_label c.to to, (word_label c.target target, tt))))

-- ## The words tell the forms

-- the instruction that the table has for the word of this one
abbrev pub template_for : Instr → Instr
template_for (Throw code) = Throw LEAST_THROWN
template_for i = filled i 0 (pos 0)

-- the words of a listed instruction tell an instruction's form
pub instr_form : (main : ℕ) (i : Instr) → form_of (instr_words main i) ≡ Some (forms.Instruction (template_for i))
instr_form main (Push n) = refl
instr_form main Pop = refl
instr_form main Dup = refl
instr_form main Swap = refl
instr_form main (Load k) = refl
instr_form main (Store k) = refl
instr_form main (Inc k n) = refl
instr_form main Add = refl
instr_form main Sub = refl
instr_form main Mul = refl
instr_form main Div = refl
instr_form main Rem = refl
instr_form main Neg = refl
instr_form main Eq = refl
instr_form main Lt = refl
instr_form main Le = refl
instr_form main Not = refl
instr_form main And = refl
instr_form main Or = refl
instr_form main Xor = refl
instr_form main (Jump to) = refl
instr_form main (Jz to) = refl
instr_form main (Jnz to) = refl
instr_form main (Call f) = refl
instr_form main Ret = refl
instr_form main Halt = refl
instr_form main (Throw code) = refl
instr_form main Nop = refl
instr_form main (New c) = refl
instr_form main (Get k) = refl
instr_form main (Put k) = refl
instr_form main (Vget k) = refl
instr_form main (Vput k) = refl
instr_form main Enter = refl
instr_form main Exit = refl
instr_form main (Fork f) = refl
instr_form main Join = refl
instr_form main SelfId = refl
instr_form main Txbegin = refl
instr_form main Commit = refl
instr_form main Print = refl
instr_form main Input = refl

-- the words of a listed class tell a class's form
pub class_form : (c : ℕ) (fields : Fields) → form_of (class_words c fields) ≡ Some forms.Class
class_form c fields = refl

-- the words of a listed header tell a function's form
pub header_form : (main f args locals : ℕ) → form_of (header_words main f args locals) ≡ Some forms.Function
header_form main f args locals = refl

-- the word of a listed label tells a label's form
pub label_form : (at : ℕ) → form_of (label_words at) ≡ Some forms.Label
label_form at =
    ap (λ o. if is_some o then Some forms.Label else word_form (colon (label_name at)) true) (label_of_colon (label_name at))

-- the words of a listed catch tell a catch's form
pub catch_form : (c : Catch) → form_of (catch_words c) ≡ Some forms.Catch
catch_form c = refl
