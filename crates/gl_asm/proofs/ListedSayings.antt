-- What the lines of a listing say.
use Rattle.std.proofs.Common.{◌≡◌, ◌≤◌, ℕ, ℤ, pos, List, [], ◌∷◌, Bool, true, false, not, ◌&&◌, nat_lt, Option, Some, Ok, Err, refl, ap, ◌∙◌, arith}
use Rattle.std.specs.Prelude.{Result, ◌==◌}
use Rattle.std.proofs.lemmas.Bool.{and_from, cond-false, cond-true, not_from_false}
use Rattle.gl_text.specs.declared.kinds.TheConstants.{BAD_BYTE, MISPLACED}
use Rattle.std.specs.Fmt.{decimal, signed_decimal}
use Rattle.gl_model.specs.declared.limits.TheConstants.{CLASSES, FUNCTIONS, VARIABLES, VOLATILES}
use Rattle.gl_bytecode.specs.declared.instr.Catch.{Catch}
use Rattle.gl_bytecode.specs.declared.instr.Instr.{Instr}
use Rattle.gl_bytecode.specs.declared.instr.Instr.TheVariants.{Push, Pop, Dup, Swap, Load, Store, Inc, Add, Sub, Mul, Div, Rem, Neg, Eq, Lt, Le, Not, And, Or, Xor, Jump, Jz, Jnz, Call, Ret, Halt, Throw, Nop, New, Get, Put, Vget, Vput, Enter, Exit, Fork, Join, SelfId, Txbegin, Commit, Print, Input}
use Rattle.gl_bytecode.specs.declared.limits.TheConstants.{CATCHES, LEAST_THROWN, LOCALS, MOST_THROWN}
use Rattle.gl_bytecode.specs.declared.object.Fields.{Fields}
use Rattle.gl_text.specs.Text.{is_bad, words}
use Rattle.gl_asm.specs.declared.additions.Addition.{Addition}
use Rattle.gl_asm.specs.declared.additions.Addition.TheVariants.{Nothing as AddsNothing, Class as AddsClass, Function as AddsFunction, Instruction as AddsInstruction, Catch as AddsCatch}
use Rattle.gl_asm.specs.declared.definitions.Definition.{Definition}
use Rattle.gl_asm.specs.declared.definitions.Scope.{Scope}
use Rattle.gl_asm.specs.declared.definitions.Scope.TheVariants.{Classes, Functions, Labels}
use Rattle.gl_asm.specs.declared.forms.Counts.{Counts}
use Rattle.gl_asm.specs.declared.forms.Form.{Form}
use Rattle.gl_asm.specs.declared.forms.Form.TheVariants as forms
use Rattle.gl_asm.specs.declared.limits.TheConstants.{MOST_INDEX}
use Rattle.gl_asm.specs.declared.table.Operand.{Operand}
use Rattle.gl_asm.specs.declared.table.Operand.TheVariants.{Label, Function as OfFunction, Class}
use Rattle.gl_asm.specs.Additions.{catch_of, class_of, count_of, function_of, instruction_of, label_of_line, meaning_of, new_name, room_for, value_of, with_both, with_code, with_index, with_meaning, with_operands, with_value, ◌>>=◌}
use Rattle.gl_asm.specs.Definitions.{defined_word}
use Rattle.gl_asm.specs.Forms.{form_of}
use Rattle.gl_asm.specs.Listing.{function_name, label_name}
use Rattle.gl_asm.specs.Sayings.{form_says, is_placed, said, words_say}
use Rattle.gl_asm.specs.Words.{filled, operand_of}
use Rattle.gl_text.proofs.WordLines.{IsPlain, indented, not_bad, plain_indented, plain_spaced, spaced, words_indented, words_spaced}
use Rattle.gl_asm.proofs.ListedNames.{class_name, label_of_colon}
use Rattle.gl_asm.specs.Listable.{IsValue}
use Rattle.gl_asm.proofs.ListedNumbers.{count_decimal, value_decimal}
use Rattle.gl_asm.proofs.ListedWords.{Fits, catch_are_words, catch_form, catch_words, class_are_words, class_form, class_words, header_are_words, header_form, header_words, instr_are_words, instr_form, instr_words, label_are_words, label_form, label_words, operand_words, template_for}

-- ## Operands

-- the table knows the name that the operand is
abbrev pub Known : List Definition → Counts → ℕ → Operand → Type 0
Known table c main (Label to) = meaning_of table (Labels c.functions) (label_name to) ≡ Ok to
Known table c main (OfFunction f) = meaning_of table Functions (function_name main f) ≡ Ok f
Known table c main (Class k) = meaning_of table Classes (class_name k) ≡ Ok k
Known table c main _ = Unit {0}

-- a value that is written after an instruction's word is read as its operand
value_operand : (t : Instr) (n : ℤ) → IsValue n → with_value t (signed_decimal n ∷ []) ≡ Ok (filled t 0 n)
value_operand t n is = ap (λ r. r >>= (λ z. Ok (filled t 0 z))) (value_decimal n is)

-- an index is read back from its digits
index_back : (k : ℕ) → k ≤ MOST_INDEX → count_of 0 MOST_INDEX (decimal k) ≡ Ok k
index_back k small = count_decimal 0 MOST_INDEX k (omega arith) small (omega arith)

-- an index that is written after an instruction's word is read as its operand
index_operand : (t : Instr) (k : ℕ) → k ≤ MOST_INDEX → with_index t (decimal k ∷ []) ≡ Ok (filled t k (pos 0))
index_operand t k small = ap (λ r. r >>= (λ j. Ok (filled t j (pos 0)))) (index_back k small)

-- an index and a value that are written after an instruction's word are read as its operands
both_operands : (t : Instr) (k : ℕ) (n : ℤ) → k ≤ MOST_INDEX → IsValue n → with_both t (decimal k ∷ signed_decimal n ∷ [])
    ≡ Ok (filled t k n)
both_operands t k n small is =
    ap (λ r. r >>= (λ j. value_of (signed_decimal n) >>= (λ z. Ok (filled t j z)))) (index_back k small)
    ∙ ap (λ r. r >>= (λ z. Ok (filled t k z))) (value_decimal n is)

-- a code in range that is written after `throw` is the code that is thrown
code_operand : (code : ℕ) → LEAST_THROWN ≤ code → code ≤ MOST_THROWN → with_code (decimal code ∷ []) ≡ Ok (Throw code)
code_operand code low high = ap (λ r. r >>= (λ k. Ok (Throw k))) (count_decimal LEAST_THROWN MOST_THROWN code low high (omega arith))

-- a name with a meaning that is written after an instruction's word is read as that number
name_operand : (table : List Definition) (scope : Scope) (t : Instr) (name : List ℕ) (number : ℕ) → meaning_of table scope name ≡ Ok number
    → with_meaning table scope t (name ∷ []) ≡ Ok (filled t number (pos 0))
name_operand table scope t name number known = ap (λ r. r >>= (λ k. Ok (filled t k (pos 0)))) known

-- the operands of a listed instruction are read back, where they fit and the names they need are known
operands_are : (table : List Definition) (c : Counts) (main : ℕ) (i : Instr) → Fits (operand_of i) → Known table c main (operand_of i)
    → with_operands table c (template_for i) (operand_of (template_for i)) (operand_words main (operand_of i)) ≡ Ok i
unfolding with_operands
operands_are table c main (Push n) fits known = value_operand (Push (pos 0)) n fits
operands_are table c main Pop fits known = refl
operands_are table c main Dup fits known = refl
operands_are table c main Swap fits known = refl
operands_are table c main (Load k) fits known = index_operand (Load 0) k fits
operands_are table c main (Store k) fits known = index_operand (Store 0) k fits
operands_are table c main (Inc k n) fits known = both_operands (Inc 0 (pos 0)) k n fits.0 fits.1
operands_are table c main Add fits known = refl
operands_are table c main Sub fits known = refl
operands_are table c main Mul fits known = refl
operands_are table c main Div fits known = refl
operands_are table c main Rem fits known = refl
operands_are table c main Neg fits known = refl
operands_are table c main Eq fits known = refl
operands_are table c main Lt fits known = refl
operands_are table c main Le fits known = refl
operands_are table c main Not fits known = refl
operands_are table c main And fits known = refl
operands_are table c main Or fits known = refl
operands_are table c main Xor fits known = refl
operands_are table c main (Jump to) fits known = name_operand table (Labels c.functions) (Jump 0) (label_name to) to known
operands_are table c main (Jz to) fits known = name_operand table (Labels c.functions) (Jz 0) (label_name to) to known
operands_are table c main (Jnz to) fits known = name_operand table (Labels c.functions) (Jnz 0) (label_name to) to known
operands_are table c main (Call f) fits known = name_operand table Functions (Call 0) (function_name main f) f known
operands_are table c main Ret fits known = refl
operands_are table c main Halt fits known = refl
operands_are table c main (Throw code) fits known = code_operand code fits.0 fits.1
operands_are table c main Nop fits known = refl
operands_are table c main (New class) fits known = name_operand table Classes (New 0) (class_name class) class known
operands_are table c main (Get k) fits known = index_operand (Get 0) k fits
operands_are table c main (Put k) fits known = index_operand (Put 0) k fits
operands_are table c main (Vget k) fits known = index_operand (Vget 0) k fits
operands_are table c main (Vput k) fits known = index_operand (Vput 0) k fits
operands_are table c main Enter fits known = refl
operands_are table c main Exit fits known = refl
operands_are table c main (Fork f) fits known = name_operand table Functions (Fork 0) (function_name main f) f known
operands_are table c main Join fits known = refl
operands_are table c main SelfId fits known = refl
operands_are table c main Txbegin fits known = refl
operands_are table c main Commit fits known = refl
operands_are table c main Print fits known = refl
operands_are table c main Input fits known = refl

-- the words of a listed instruction say that instruction, where operands fit and names are known
says_instr : (table : List Definition) (c : Counts) (main : ℕ) (i : Instr) → Fits (operand_of i) → Known table c main (operand_of i)
    → instruction_of table c (template_for i) (operand_words main (operand_of i)) ≡ Ok (AddsInstruction i)
unfolding instruction_of
says_instr table c main i fits known = ap (λ r. r >>= (λ j. Ok (AddsInstruction j))) (operands_are table c main i fits known)

-- ## What lines say

-- what a plain line of these words says, where a line of their form may stand
says : (table : List Definition) (c : Counts) (line have : ℕ) (text : List ℕ) (ws : List (List ℕ)) (form : Option Form) (a : Addition)
    → IsPlain text → words text ≡ ws → form_of ws ≡ form → is_placed c form ≡ true → form_says table c line have form ws ≡ Ok a
    → said table c line have text ≡ Ok a
unfolding said
says table c line have text ws form a plain are tell placed ok =
    cond-false (is_bad text) (Err BAD_BYTE) (words_say table c line have (form_of (words text)) (words text)) (not_bad text plain)
    ∙ ap (λ l. words_say table c line have (form_of l) l) are
    ∙ ap (λ o. words_say table c line have o ws) tell
    ∙ cond-true (is_placed c form) (form_says table c line have form ws) (Err MISPLACED) placed
    ∙ ok

-- before the inputs and inside a function both tests for an instruction's line hold
before_inputs : (c : Counts) (inside : Bool) → c.given ≡ false → inside ≡ true → (not c.given && inside) ≡ true
before_inputs c inside first is = and_from (not c.given) inside (not_from_false c.given first) is

-- the line of a listed instruction adds that instruction, inside a function and before the inputs
pub said_instr : (table : List Definition) (c : Counts) (line have main : ℕ) (i : Instr) → c.given ≡ false → (c.functions == 0) ≡ false
    → Fits (operand_of i) → Known table c main (operand_of i)
    → said table c line have (indented (instr_words main i)) ≡ Ok (AddsInstruction i)
said_instr table c line have main i first inside fits known =
    let are = instr_are_words main i fits in
    says table c line have (indented (instr_words main i)) (instr_words main i) (Some (forms.Instruction (template_for i)))
    (AddsInstruction i)
    (plain_indented (instr_words main i) are) (words_indented (instr_words main i) are) (instr_form main i)
    (before_inputs c (not (c.functions == 0)) first (not_from_false (c.functions == 0) inside)) (says_instr table c main i fits known)

-- the words of a listed class say a class of those fields, where its name is new and there is room
says_class : (table : List Definition) (c : Counts) (line k : ℕ) (fields : Fields)
    → new_name table Classes line (nat_lt c.classes CLASSES) (class_name k) ≡ Ok tt
    → fields.plain ≤ VARIABLES → fields.volatile ≤ VOLATILES
    → class_of table c line (class_name k ∷ decimal fields.plain ∷ decimal fields.volatile ∷ [])
    ≡ Ok (AddsClass fields.plain fields.volatile)
unfolding class_of
says_class table c line k fields named plain volatile =
    ap (λ r. r >>= (λ u. count_of 0 VARIABLES (decimal fields.plain) >>=
    (λ p. count_of 0 VOLATILES (decimal fields.volatile) >>= (λ v. Ok (AddsClass p v))))) named
    ∙ ap (λ r. r >>= (λ p. count_of 0 VOLATILES (decimal fields.volatile) >>= (λ v. Ok (AddsClass p v))))
    (count_decimal 0 VARIABLES fields.plain (omega arith) plain (omega arith))
    ∙ ap (λ r. r >>= (λ v. Ok (AddsClass fields.plain v))) (count_decimal 0 VOLATILES fields.volatile (omega arith) volatile (omega arith))

-- the line of a listed class adds that class, before all functions and the inputs
pub said_class : (table : List Definition) (c : Counts) (line have k : ℕ) (fields : Fields) → c.given ≡ false → (c.functions == 0) ≡ true
    → new_name table Classes line (nat_lt c.classes CLASSES) (class_name k) ≡ Ok tt → k ≤ MOST_INDEX → fields.plain ≤ VARIABLES
    → fields.volatile ≤ VOLATILES
    → said table c line have (spaced (class_words k fields)) ≡ Ok (AddsClass fields.plain fields.volatile)
said_class table c line have k fields first before named small plain volatile =
    let are = class_are_words k fields small (omega arith) (omega arith) in
    says table c line have (spaced (class_words k fields)) (class_words k fields) (Some forms.Class)
    (AddsClass fields.plain fields.volatile)
    (plain_spaced (class_words k fields) are) (words_spaced (class_words k fields) are) (class_form k fields)
    (before_inputs c (c.functions == 0) first before) (says_class table c line k fields named plain volatile)

-- the words of a listed header say a function of those arguments and locals, where its name is new and there is room
says_header : (table : List Definition) (c : Counts) (line main f args locals : ℕ)
    → new_name table Functions line (nat_lt c.functions FUNCTIONS) (function_name main f) ≡ Ok tt
    → args ≤ LOCALS → locals ≤ LOCALS
    → function_of table c line (function_name main f ∷ decimal args ∷ decimal locals ∷ []) ≡ Ok (AddsFunction args locals)
unfolding function_of
says_header table c line main f args locals named few short =
    ap (λ r. r >>= (λ u. count_of 0 LOCALS (decimal args) >>= (λ a. count_of 0 LOCALS (decimal locals) >>= (λ l. Ok (AddsFunction a l)))))
    named
    ∙ ap (λ r. r >>= (λ a. count_of 0 LOCALS (decimal locals) >>= (λ l. Ok (AddsFunction a l))))
    (count_decimal 0 LOCALS args (omega arith) few (omega arith))
    ∙ ap (λ r. r >>= (λ l. Ok (AddsFunction args l))) (count_decimal 0 LOCALS locals (omega arith) short (omega arith))

-- the line of a listed header adds that function, before the inputs
pub said_header : (table : List Definition) (c : Counts) (line have main f args locals : ℕ) → c.given ≡ false
    → new_name table Functions line (nat_lt c.functions FUNCTIONS) (function_name main f) ≡ Ok tt → f ≤ MOST_INDEX → args ≤ LOCALS
    → locals ≤ LOCALS
    → said table c line have (spaced (header_words main f args locals)) ≡ Ok (AddsFunction args locals)
said_header table c line have main f args locals first named small few short =
    let ws = header_words main f args locals in
    let are = header_are_words main f args locals small (omega arith) (omega arith) in
    says table c line have (spaced ws) ws (Some forms.Function) (AddsFunction args locals)
    (plain_spaced ws are) (words_spaced ws are) (header_form main f args locals)
    (before_inputs c true first refl) (says_header table c line main f args locals named few short)

-- the word of a listed label says nothing to add, where its name is new
says_label : (table : List Definition) (c : Counts) (line at : ℕ) → new_name table (Labels c.functions) line true (label_name at) ≡ Ok tt
    → label_of_line table c line (defined_word (Some forms.Label) (label_words at)) ≡ Ok AddsNothing
unfolding label_of_line
says_label table c line at named =
    ap (label_of_line table c line) (label_of_colon (label_name at)) ∙ ap (λ r. r >>= (λ u. Ok AddsNothing)) named

-- the line of a listed label adds nothing, inside a function and before the inputs
pub said_label : (table : List Definition) (c : Counts) (line have at : ℕ) → c.given ≡ false → (c.functions == 0) ≡ false
    → new_name table (Labels c.functions) line true (label_name at) ≡ Ok tt → at ≤ MOST_INDEX
    → said table c line have (spaced (label_words at)) ≡ Ok AddsNothing
said_label table c line have at first inside named small =
    let are = label_are_words at small in
    says table c line have (spaced (label_words at)) (label_words at) (Some forms.Label) AddsNothing
    (plain_spaced (label_words at) are) (words_spaced (label_words at) are) (label_form at)
    (before_inputs c (not (c.functions == 0)) first (not_from_false (c.functions == 0) inside)) (says_label table c line at named)

-- the words of a listed catch say that catch, where there is room and its three labels have their meanings
says_catch : (table : List Definition) (c : Counts) (k : Catch) → nat_lt c.catches CATCHES ≡ true
    → meaning_of table (Labels c.functions) (label_name k.from) ≡ Ok k.from
    → meaning_of table (Labels c.functions) (label_name k.to) ≡ Ok k.to
    → meaning_of table (Labels c.functions) (label_name k.target) ≡ Ok k.target
    → catch_of table c (label_name k.from ∷ label_name k.to ∷ label_name k.target ∷ []) ≡ Ok (AddsCatch k)
unfolding catch_of
says_catch table c k room from to target =
    let meaning : ℕ → Result ℕ ℕ = λ at. meaning_of table (Labels c.functions) (label_name at) in
    ap (λ b. room_for b >>= (λ u. meaning k.from >>=
    (λ x. meaning k.to >>= (λ y. meaning k.target >>= (λ z. Ok (AddsCatch (record { from = x; to = y; target = z }))))))) room
    ∙ ap (λ r. r >>= (λ x. meaning k.to >>= (λ y. meaning k.target >>= (λ z. Ok (AddsCatch (record { from = x; to = y; target = z }))))))
    from
    ∙ ap (λ r. r >>= (λ y. meaning k.target >>= (λ z. Ok (AddsCatch (record { from = k.from; to = y; target = z }))))) to
    ∙ ap (λ r. r >>= (λ z. Ok (AddsCatch (record { from = k.from; to = k.to; target = z })))) target

-- the line of a listed catch adds that catch, inside a function and before the inputs
pub said_catch : (table : List Definition) (c : Counts) (line have : ℕ) (k : Catch) → c.given ≡ false → (c.functions == 0) ≡ false
    → nat_lt c.catches CATCHES ≡ true
    → meaning_of table (Labels c.functions) (label_name k.from) ≡ Ok k.from
    → meaning_of table (Labels c.functions) (label_name k.to) ≡ Ok k.to
    → meaning_of table (Labels c.functions) (label_name k.target) ≡ Ok k.target
    → k.from ≤ MOST_INDEX → k.to ≤ MOST_INDEX → k.target ≤ MOST_INDEX
    → said table c line have (indented (catch_words k)) ≡ Ok (AddsCatch k)
said_catch table c line have k first inside room from to target a b d =
    let are = catch_are_words k a b d in
    says table c line have (indented (catch_words k)) (catch_words k) (Some forms.Catch) (AddsCatch k)
    (plain_indented (catch_words k) are) (words_indented (catch_words k) are) (catch_form k)
    (before_inputs c (not (c.functions == 0)) first (not_from_false (c.functions == 0) inside)) (says_catch table c k room from to target)
