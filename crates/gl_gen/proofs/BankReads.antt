-- What the lines of the bank say. All of them but the number of transfers are written out, so that what they say computes.
use Rattle.std.proofs.Common.{◌≡◌, ℕ, pos, ◌+◌, ◌*◌, false, ◌==◌, List, [], ◌∷◌, ◌++◌, Some, Ok, map, drop, length, codes, fold, refl, ap, sym, ◌∙◌, arith, append_assoc}
use Rattle.std.specs.Prelude.{option_to_list}
use Rattle.std.specs.Fmt.{decimal, digits}
use Rattle.std.specs.List.{flat_map, range_with_len}
use Rattle.gl_text.specs.Text.{is_bad, words}
use Rattle.gl_bytecode.specs.declared.instr.Instr.TheVariants.{Push, Store}
use Rattle.gl_bytecode.specs.Programs.{Draft, draft_of}
use Rattle.gl_asm.specs.declared.additions.Addition.{Addition}
use Rattle.gl_asm.specs.declared.additions.Addition.TheVariants.{Nothing, Class as AddsClass, Function as AddsFunction, Instruction as AddsInstruction}
use Rattle.gl_asm.specs.declared.definitions.Definition.{Definition}
use Rattle.gl_asm.specs.declared.definitions.Scope.TheVariants.{Classes, Functions, Labels}
use Rattle.gl_asm.specs.declared.forms.Counts.{Counts}
use Rattle.gl_asm.specs.declared.forms.Form.TheVariants.{Instruction}
use Rattle.gl_asm.specs.Additions.{Word, class_of, function_of, instruction_of, label_of_line, value_of, with_operands}
use Rattle.gl_asm.specs.Definitions.{definition_of, definitions, definitions_from}
use Rattle.gl_asm.specs.Forms.{counted, form_of, none_yet}
use Rattle.gl_asm.specs.Sayings.{said}
use Rattle.gl_asm.specs.Texts.{added, built, lines_read, read_from, start}
use Rattle.gl_asm.proofs.Reading.{line_more}
use Rattle.gl_gen.specs.Bank.{bank_program, main_code, transfer_code}
use Rattle.gl_gen.specs.BankText.{Line, bank_lines, main_lines, transfer_lines}
use Rattle.gl_gen.proofs.SomeLines.{after, definitions_on, lines_more}

-- ## The names that are defined

-- what the class and main define
abbrev head_table : List Definition
head_table =
    (record { scope = Classes; name = codes "Bank"; line = 1; number = 0 })
    ∷ (record { scope = Functions; name = codes "main"; line = 2; number = 0 }) ∷ []

-- what an account's function defines: its name and its label
abbrev table_of : ℕ → List Definition
table_of k =
    (record { scope = Functions; name = codes "w" ++ decimal k; line = 94 + 23 * k; number = k + 1 })
    ∷ (record { scope = Labels (k + 2); name = codes "a"; line = 97 + 23 * k; number = 2 }) ∷ []

-- what all lines of the bank define
abbrev table : List Definition
table = head_table ++ flat_map table_of (range_with_len 0 8)

-- ## The class and main

-- the lines of the class and of main
abbrev head : List Line
head = codes "class Bank 8 0" ∷ main_lines

-- what the class and main add
abbrev head_additions : List Addition
head_additions = AddsClass 8 0 ∷ AddsFunction 0 9 ∷ map AddsInstruction main_code

-- the counts before the function of account k, where the function before it has so many instructions
abbrev counts : ℕ → ℕ → Counts
counts k places = record { classes = 1; functions = k + 1; places = places; catches = 0; given = false }

-- the lines of the class and of main define what their table says
head_defines : definitions_from none_yet 1 head ≡ head_table
unfolding digits
head_defines = refl

-- the lines of the class and of main add the class, main and its instructions
head_adds : read_from table none_yet 1 0 head ≡ Ok head_additions
unfolding digits said class_of function_of instruction_of with_operands label_of_line
head_adds = refl

-- after main one function is counted, with 91 instructions
head_counts : after none_yet head ≡ counts 0 91
unfolding digits
head_counts = refl

-- ## The line with the number of transfers

pub record SaysPush (n : ℕ) (line : Line) : Type 0 where
  pub word : Word
  pub good : is_bad line ≡ false
  pub words_are : words line ≡ codes "push" ∷ word ∷ []
  pub value : value_of word ≡ Ok (pos n)

-- a line that says a push has the form of one
push_form : (n : ℕ) (text : Line) → SaysPush n text → form_of (words text) ≡ Some (Instruction (Push (pos 0)))
push_form n text says = ap form_of says.words_are

-- a line that says a push adds it, inside a function and before the inputs
push_adds : (T : List Definition) (c : Counts) (line n : ℕ) (text : Line) → SaysPush n text → c.given ≡ false → (c.functions == 0) ≡ false
    → said T c line 0 text ≡ Ok (AddsInstruction (Push (pos n)))
unfolding said instruction_of with_operands
push_adds T c line n text says given some = rw (says.good, says.words_are, given, some, says.value) refl

-- ## The function of an account

-- the header of an account's function
abbrev header_line : ℕ → Line
header_line k = codes "func w" ++ (decimal k ++ codes " 1 2")

-- the lines behind the one with the number, and what they add
abbrev code_lines : ℕ → List Line
code_lines k = drop 2 (transfer_lines 0 k)

-- what the lines of an account's function after the one with the number add
abbrev code_additions : ℕ → List Addition
code_additions k = AddsInstruction (Store 1) ∷ Nothing ∷ map AddsInstruction (drop 2 (transfer_code 0 k))

-- the counts before these lines
abbrev pushed : ℕ → ℕ → Counts
pushed k places = counted (after (counts k places) (header_line k ∷ [])) (Some (Instruction (Push (pos 0))))

-- what computes for one account
record SaysTransfer (k places : ℕ) : Type 0 where
  defines :
      definitions_from (counts k places) (94 + 23 * k) (header_line k ∷ [])
      ++ definitions_from (pushed k places) (((94 + 23 * k) + 1) + 1) (code_lines k) ≡ table_of k
  header : read_from table (counts k places) (94 + 23 * k) 0 (header_line k ∷ []) ≡ Ok (AddsFunction 1 2 ∷ [])
  given : (after (counts k places) (header_line k ∷ [])).given ≡ false
  some : ((after (counts k places) (header_line k ∷ [])).functions == 0) ≡ false
  code : read_from table (pushed k places) (((94 + 23 * k) + 1) + 1) 0 (code_lines k) ≡ Ok (code_additions k)
  onward : after (pushed k places) (code_lines k) ≡ counts (k + 1) 21

-- what the lines of the first account's function say computes
says_0 : SaysTransfer 0 91
unfolding digits said class_of function_of instruction_of with_operands label_of_line
says_0 = record { defines = refl; header = refl; given = refl; some = refl; code = refl; onward = refl }

-- what the lines of the second account's function say computes
says_1 : SaysTransfer 1 21
unfolding digits said class_of function_of instruction_of with_operands label_of_line
says_1 = record { defines = refl; header = refl; given = refl; some = refl; code = refl; onward = refl }

-- what the lines of the third account's function say computes
says_2 : SaysTransfer 2 21
unfolding digits said class_of function_of instruction_of with_operands label_of_line
says_2 = record { defines = refl; header = refl; given = refl; some = refl; code = refl; onward = refl }

-- what the lines of the fourth account's function say computes
says_3 : SaysTransfer 3 21
unfolding digits said class_of function_of instruction_of with_operands label_of_line
says_3 = record { defines = refl; header = refl; given = refl; some = refl; code = refl; onward = refl }

-- what the lines of the fifth account's function say computes
says_4 : SaysTransfer 4 21
unfolding digits said class_of function_of instruction_of with_operands label_of_line
says_4 = record { defines = refl; header = refl; given = refl; some = refl; code = refl; onward = refl }

-- what the lines of the sixth account's function say computes
says_5 : SaysTransfer 5 21
unfolding digits said class_of function_of instruction_of with_operands label_of_line
says_5 = record { defines = refl; header = refl; given = refl; some = refl; code = refl; onward = refl }

-- what the lines of the seventh account's function say computes
says_6 : SaysTransfer 6 21
unfolding digits said class_of function_of instruction_of with_operands label_of_line
says_6 = record { defines = refl; header = refl; given = refl; some = refl; code = refl; onward = refl }

-- what the lines of the eighth account's function say computes
says_7 : SaysTransfer 7 21
unfolding digits said class_of function_of instruction_of with_operands label_of_line
says_7 = record { defines = refl; header = refl; given = refl; some = refl; code = refl; onward = refl }

-- the draft with the function of account k
abbrev with_transfer : ℕ → ℕ → Draft → Draft
with_transfer n k D = fold added (added (added D (AddsFunction 1 2)) (AddsInstruction (Push (pos n)))) (code_additions k)

module _ (n : ℕ) (push : SaysPush n (codes "  push " ++ decimal n)) where
  -- the line with the number of transfers
  abbrev push_line : Line
  push_line = codes "  push " ++ decimal n

  -- the lines of one account's function, and then others
  defines_on : (k places : ℕ) → SaysTransfer k places → (rest : List Line)
      → definitions_from (counts k places) (94 + 23 * k) (transfer_lines n k ++ rest) ≡ table_of k
      ++ definitions_from (counts (k + 1) 21) (94 + 23 * (k + 1)) rest
  defines_on k places says rest =
      let at = 94 + 23 * k in
      let c = after (counts k places) (header_line k ∷ []) in
      let code = code_lines k ++ rest in
      let first = definitions_from (counts k places) at (header_line k ∷ []) in
      let others = definitions_from (pushed k places) ((at + 1) + 1) (code_lines k) in
      let e : ((at + 1) + 1) + 21 ≡ 94 + 23 * (k + 1) = omega arith in
      definitions_on (counts k places) at (header_line k ∷ []) (push_line ∷ code)
      ∙ ap (λ l. first ++ l)
      (ap (λ f. option_to_list (definition_of c (at + 1) f (words push_line)) ++ definitions_from (counted c f) ((at + 1) + 1) code)
      (push_form n push_line push)
      ∙ definitions_on (pushed k places) ((at + 1) + 1) (code_lines k) rest)
      ∙ sym (append_assoc first others (definitions_from (after (pushed k places) (code_lines k)) (((at + 1) + 1) + 21) rest))
      ∙ ap (λ l. l ++ definitions_from (after (pushed k places) (code_lines k)) (((at + 1) + 1) + 21) rest) says.defines
      ∙ ap (λ d. table_of k ++ definitions_from d (((at + 1) + 1) + 21) rest) says.onward
      ∙ ap (λ m. table_of k ++ definitions_from (counts (k + 1) 21) m rest) e

  -- the lines of an account's function, before others, add this function and lead to the counts after it
  adds_on : (k places : ℕ) → SaysTransfer k places → (rest : List Line) (D : Draft)
      → built D [] (read_from table (counts k places) (94 + 23 * k) 0 (transfer_lines n k ++ rest))
      ≡ built (with_transfer n k D) [] (read_from table (counts (k + 1) 21) (94 + 23 * (k + 1)) 0 rest)
  adds_on k places says rest D =
      let at = 94 + 23 * k in
      let c = after (counts k places) (header_line k ∷ []) in
      let code = code_lines k ++ rest in
      let with_header = added D (AddsFunction 1 2) in
      let with_push = added with_header (AddsInstruction (Push (pos n))) in
      let e : ((at + 1) + 1) + 21 ≡ 94 + 23 * (k + 1) = omega arith in
      lines_more table D (counts k places) at (header_line k ∷ []) (push_line ∷ code) (AddsFunction 1 2 ∷ []) says.header refl
      ∙ line_more table c (at + 1) with_header [] push_line code (AddsInstruction (Push (pos n)))
      (push_adds table c (at + 1) n push_line push says.given says.some)
      ∙ ap (λ f. built with_push [] (read_from table (counted c f) ((at + 1) + 1) 0 code)) (push_form n push_line push)
      ∙ lines_more table with_push (pushed k places) ((at + 1) + 1) (code_lines k) rest (code_additions k) says.code refl
      ∙ ap (λ d. built (with_transfer n k D) [] (read_from table d (((at + 1) + 1) + 21) 0 rest)) says.onward
      ∙ ap (λ m. built (with_transfer n k D) [] (read_from table (counts (k + 1) 21) m 0 rest)) e

  -- ## All lines

  -- the lines of so many accounts' functions from one on
  abbrev lines_of : ℕ → ℕ → List Line
  lines_of k many = flat_map (transfer_lines n) (range_with_len k many)

  -- the bank's lines define what the table says
  all_define : definitions (bank_lines n) ≡ table
  all_define =
      definitions_on none_yet 1 head (lines_of 0 8)
      ∙ ap (λ l. l ++ definitions_from (after none_yet head) (1 + length head) (lines_of 0 8)) head_defines
      ∙ ap (λ c. head_table ++ definitions_from c (1 + length head) (lines_of 0 8)) head_counts
      ∙ ap (λ l. head_table ++ l)
      (defines_on 0 91 says_0 (lines_of 1 7)
      ∙ ap (λ l. table_of 0 ++ l)
      (defines_on 1 21 says_1 (lines_of 2 6)
      ∙ ap (λ l. table_of 1 ++ l)
      (defines_on 2 21 says_2 (lines_of 3 5)
      ∙ ap (λ l. table_of 2 ++ l)
      (defines_on 3 21 says_3 (lines_of 4 4)
      ∙ ap (λ l. table_of 3 ++ l)
      (defines_on 4 21 says_4 (lines_of 5 3)
      ∙ ap (λ l. table_of 4 ++ l)
      (defines_on 5 21 says_5 (lines_of 6 2)
      ∙ ap (λ l. table_of 5 ++ l) (defines_on 6 21 says_6 (lines_of 7 1) ∙ ap (λ l. table_of 6 ++ l) (defines_on 7 21 says_7 []))))))))

  -- the draft before the first line
  abbrev empty : Draft
  empty = record { classes = []; functions = []; main = Some 0 }

  -- with the bank's table the draft starts empty, with main known
  starts : start table ≡ empty
  unfolding digits
  starts = refl

  -- all lines of the bank add the whole bank, and no inputs
  all_add : built empty [] (read_from table none_yet 1 0 (bank_lines n)) ≡ Ok (draft_of (bank_program n), [])
  all_add =
      let D = fold added empty head_additions in
      let draft_0 = with_transfer n 0 D in
      let draft_1 = with_transfer n 1 draft_0 in
      let draft_2 = with_transfer n 2 draft_1 in
      let draft_3 = with_transfer n 3 draft_2 in
      let draft_4 = with_transfer n 4 draft_3 in
      let draft_5 = with_transfer n 5 draft_4 in
      let draft_6 = with_transfer n 6 draft_5 in
      lines_more table empty none_yet 1 head (lines_of 0 8) head_additions head_adds refl
      ∙ ap (λ c. built D [] (read_from table c (1 + length head) 0 (lines_of 0 8))) head_counts
      ∙ adds_on 0 91 says_0 (lines_of 1 7) D ∙ adds_on 1 21 says_1 (lines_of 2 6) draft_0 ∙ adds_on 2 21 says_2 (lines_of 3 5) draft_1
      ∙ adds_on 3 21 says_3 (lines_of 4 4) draft_2 ∙ adds_on 4 21 says_4 (lines_of 5 3) draft_3 ∙ adds_on 5 21 says_5 (lines_of 6 2) draft_4
      ∙ adds_on 6 21 says_6 (lines_of 7 1) draft_5 ∙ adds_on 7 21 says_7 [] draft_6

  -- the bank's lines are read as the bank, with no inputs
  pub lines_say : lines_read (bank_lines n) ≡ Ok (draft_of (bank_program n), [])
  lines_say =
      ap (λ T. built (start T) [] (read_from T none_yet 1 0 (bank_lines n))) all_define
      ∙ ap (λ D. built D [] (read_from table none_yet 1 0 (bank_lines n))) starts ∙ all_add
