-- Some lines of a program text before others.
use Rattle.std.proofs.Common.{◌≡◌, ℕ, ℤ, ◌+◌, Bool, true, false, List, [], ◌∷◌, ◌++◌, Ok, Err, length, fold, refl, ap, sym, ◌∙◌, arith, append_assoc, subst}
use Rattle.std.specs.Prelude.{Result, option_to_list}
use Rattle.std.specs.List.{list_all}
use Rattle.std.proofs.lemmas.Bool.{and_parts}
use Rattle.gl_text.specs.Text.{words}
use Rattle.gl_bytecode.specs.Programs.{Draft}
use Rattle.gl_asm.specs.declared.additions.Addition.{Addition}
use Rattle.gl_asm.specs.declared.additions.Addition.TheVariants.{Nothing, Class as AddsClass, Function as AddsFunction, Instruction as AddsInstruction, Catch as AddsCatch, Inputs as AddsInputs}
use Rattle.gl_asm.specs.declared.definitions.Definition.{Definition}
use Rattle.gl_asm.specs.declared.forms.Counts.{Counts}
use Rattle.gl_asm.specs.Additions.{◌>>=◌}
use Rattle.gl_asm.specs.Definitions.{definition_of, definitions_from}
use Rattle.gl_asm.specs.Forms.{counted, form_of}
use Rattle.gl_asm.specs.Sayings.{said}
use Rattle.gl_asm.specs.Texts.{LineFault, added, at_line, built, inputs_in, read_from}
use Rattle.gl_asm.proofs.Reading.{line_more}
use Rattle.gl_gen.specs.BankText.{Line}

-- the counts behind some lines
abbrev pub after : Counts → List Line → Counts
after c [] = c
after c (text ∷ rest) = after (counted c (form_of (words text))) rest

-- what they define, and what the others do
pub definitions_on : (c : Counts) (line : ℕ) (ls rest : List Line)
    → definitions_from c line (ls ++ rest) ≡ definitions_from c line ls ++ definitions_from (after c ls) (line + length ls) rest
definitions_on c line [] rest = (let e : line ≡ line + 0 = omega arith in ap (λ n. definitions_from c n rest) e)
definitions_on c line (text ∷ ls) rest =
    let c' = counted c (form_of (words text)) in
    let first = option_to_list (definition_of c line (form_of (words text)) (words text)) in
    let e : (line + 1) + length ls ≡ line + length (text ∷ ls) = omega arith in
    ap (λ l. first ++ l) (definitions_on c' (line + 1) ls rest)
    ∙ sym (append_assoc first (definitions_from c' (line + 1) ls) (definitions_from (after c' ls) ((line + 1) + length ls) rest))
    ∙ ap (λ n. (first ++ definitions_from c' (line + 1) ls) ++ definitions_from (after c' ls) n rest) e

-- ## What they add

-- a test that what is added is no inputs
abbrev pub adds_no_inputs : Addition → Bool
adds_no_inputs Nothing = true
adds_no_inputs (AddsClass plain volatile) = true
adds_no_inputs (AddsFunction args locals) = true
adds_no_inputs (AddsInstruction i) = true
adds_no_inputs (AddsCatch c) = true
adds_no_inputs (AddsInputs values) = false

-- what passes the test adds no inputs
no_inputs : (a : Addition) → adds_no_inputs a ≡ true → inputs_in a ≡ []
no_inputs Nothing is = refl
no_inputs (AddsClass plain volatile) is = refl
no_inputs (AddsFunction args locals) is = refl
no_inputs (AddsInstruction i) is = refl
no_inputs (AddsCatch c) is = refl
no_inputs (AddsInputs values) is = cc

-- what is added first, and what the others add
record Splits (r : Result Addition ℕ) (more : Addition → Result (List Addition) LineFault) (bs : List Addition) : Type 0 where
  first : Addition
  others : List Addition
  says : r ≡ Ok first
  go_on : more first ≡ Ok others
  whole : bs ≡ first ∷ others

-- where a first addition and others are read, they split into that and the others
splits_others : (a : Addition) (more : Addition → Result (List Addition) LineFault) (s : Result (List Addition) LineFault)
    (bs : List Addition) → more a ≡ s
    → (s >>= (λ others. Ok (a ∷ others))) ≡ Ok bs → Splits (Ok a) more bs
splits_others a more (Err fault) bs s_is is = cc
splits_others a more (Ok others) bs s_is is =
    (let whole : bs ≡ a ∷ others = cc in record { first = a; others = others; says = refl; go_on = s_is; whole = whole })

-- where a line and then others are read, what they add splits into what the line adds and the others
splits : (r : Result Addition ℕ) (line : ℕ) (more : Addition → Result (List Addition) LineFault) (bs : List Addition)
    → (at_line line r >>= (λ a. more a >>= (λ others. Ok (a ∷ others)))) ≡ Ok bs → Splits r more bs
splits (Err kind) line more bs is = cc
splits (Ok a) line more bs is = splits_others a more (more a) bs refl is

-- these lines add this, and no input; then the others are read
pub lines_more : (T : List Definition) (D : Draft) (c : Counts) (line : ℕ) (ls rest : List Line) (bs : List Addition)
    → read_from T c line 0 ls ≡ Ok bs → list_all adds_no_inputs bs ≡ true
    → built D [] (read_from T c line 0 (ls ++ rest)) ≡ built (fold added D bs) [] (read_from T (after c ls) (line + length ls) 0 rest)
lines_more T D c line [] rest bs is none =
    let e : line ≡ line + 0 = omega arith in
    let same : [] ≡ bs = cc in
    ap (λ n. built D [] (read_from T c n 0 rest)) e ∙ ap (λ cs. built (fold added D cs) [] (read_from T c (line + 0) 0 rest)) same
lines_more T D c line (text ∷ ls) rest bs is none =
    let c' = counted c (form_of (words text)) in
    let s = splits (said T c line 0 text) line (λ a. read_from T c' (line + 1) (0 + length (inputs_in a)) ls) bs is in
    let a = s.first in
    let right = and_parts _ _ (subst (λ cs. list_all adds_no_inputs cs ≡ true) s.whole none) in
    let empty : inputs_in a ≡ [] = no_inputs a right.0 in
    let others : read_from T c' (line + 1) 0 ls
    ≡ Ok s.others = subst (λ (zs : List ℤ). read_from T c' (line + 1) (0 + length zs) ls ≡ Ok s.others) empty s.go_on in
    let e : (line + 1) + length ls ≡ line + length (text ∷ ls) = omega arith in
    line_more T c line D [] text (ls ++ rest) a s.says
    ∙ ap (λ (zs : List ℤ). built (added D a) zs (read_from T c' (line + 1) (length zs) (ls ++ rest))) empty
    ∙ lines_more T (added D a) c' (line + 1) ls rest s.others others right.1
    ∙ ap (λ n. built (fold added (added D a) s.others) [] (read_from T (after c' ls) n 0 rest)) e
    ∙ ap (λ cs. built (fold added D cs) [] (read_from T (after c' ls) (line + length (text ∷ ls)) 0 rest)) (sym s.whole)
