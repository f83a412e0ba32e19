-- What the lines of a text that has no fault add.
use Rattle.std.proofs.Common.{◌≡◌, ℕ, ◌+◌, ◌-◌, Bool, true, false, not, if◌then◌else◌, List, [], ◌∷◌, Option, Some, None, Ok, Err, length, refl, subst, nat_lt, is_some}
use Rattle.std.specs.Prelude.{Result, IfOk, slice_get}
use Rattle.gl_text.specs.Text.{is_bad, words}
use Rattle.gl_text.specs.declared.kinds.TheConstants.{BAD_BYTE, MISPLACED}
use Rattle.gl_model.specs.declared.limits.TheConstants.{CLASSES, FUNCTIONS, INPUTS, VARIABLES, VOLATILES}
use Rattle.gl_bytecode.specs.declared.instr.Instr.{Instr}
use Rattle.gl_bytecode.specs.declared.limits.TheConstants.{CATCHES, LOCALS}
use Rattle.gl_asm.specs.declared.additions.Addition.{Addition}
use Rattle.gl_asm.specs.declared.additions.Addition.TheVariants.{Nothing, Class as AddsClass, Function as AddsFunction, Instruction as AddsInstruction, Catch as AddsCatch, Inputs as AddsInputs}
use Rattle.gl_asm.specs.declared.definitions.Definition.{Definition}
use Rattle.gl_asm.specs.declared.definitions.Scope.TheVariants.{Classes, Functions, Labels}
use Rattle.gl_asm.specs.declared.forms.Counts.{Counts}
use Rattle.gl_asm.specs.declared.forms.Form.{Form}
use Rattle.gl_asm.specs.declared.forms.Form.TheVariants.{Blank, Class, Function, Label, Catch, Inputs, Instruction}
use Rattle.gl_asm.specs.Additions.{◌>>=◌, Word, catch_of, class_of, count_of, function_of, inputs_of, instruction_of, label_of_line, meaning_of, new_name, rest_of, room_for, three_of, values_of, with_operands}
use Rattle.gl_asm.specs.Definitions.{defined_word}
use Rattle.gl_asm.specs.Forms.{counted, form_of}
use Rattle.gl_asm.specs.Words.{operand_of}
use Rattle.gl_asm.specs.Sayings.{form_says, is_placed, said, words_say}
use Rattle.gl_asm.specs.Texts.{LineFault, at_line, inputs_in, read_from}
use Rattle.gl_sites.specs.Adding.{adds_of, kind_of}

-- what holds of each answer of the second holds of each answer of both
bound : {A B E : Type 0} (Q : B → Type 0) (r : Result A E) (f : A → Result B E) → ((x : A) → IfOk (f x) Q) → IfOk (r >>= f) Q
bound Q (Ok x) f each = each x
bound Q (Err kind) f each = tt

-- an answer has what holds of each answer
of_ok : {A E : Type 0} (Q : A → Type 0) (r : Result A E) (x : A) → IfOk r Q → r ≡ Ok x → Q x
of_ok Q (Ok y) x holds is = (let same : y ≡ x = cc in subst Q same holds)
of_ok Q (Err kind) x holds is = cc

-- what holds in any case holds of each answer
in_any : {A E : Type 0} (Q : Type 0) (r : Result A E) → Q → IfOk r (λ x. Q)
in_any Q (Ok x) holds = holds
in_any Q (Err kind) holds = tt

-- ## What a line's addition is

-- the addition is what the form says
abbrev pub IsOfForm : Form → Addition → Type 0
IsOfForm form a = kind_of a ≡ adds_of form

-- what the words of a class's line say, where it is no fault, adds what that form says
class_adds : (table : List Definition) (c : Counts) (line : ℕ) (ws : List Word) → IfOk (class_of table c line ws) (IsOfForm Class)
unfolding class_of
class_adds table c line ws =
    bound (IsOfForm Class) (three_of ws)
    (λ w. new_name table Classes line (nat_lt c.classes CLASSES) w.0
    >>= (λ u. count_of 0 VARIABLES w.1 >>= (λ p. count_of 0 VOLATILES w.2 >>= (λ v. Ok (AddsClass p v)))))
    (λ w. bound (IsOfForm Class) (new_name table Classes line (nat_lt c.classes CLASSES) w.0)
    (λ u. count_of 0 VARIABLES w.1 >>= (λ p. count_of 0 VOLATILES w.2 >>= (λ v. Ok (AddsClass p v))))
    (λ u. bound (IsOfForm Class) (count_of 0 VARIABLES w.1) (λ p. count_of 0 VOLATILES w.2 >>= (λ v. Ok (AddsClass p v)))
    (λ p. bound (IsOfForm Class) (count_of 0 VOLATILES w.2) (λ v. Ok (AddsClass p v)) (λ v. refl))))

-- what the words of a function's line say, where it is no fault, adds what that form says
function_adds : (table : List Definition) (c : Counts) (line : ℕ) (ws : List Word)
    → IfOk (function_of table c line ws) (IsOfForm Function)
unfolding function_of
function_adds table c line ws =
    bound (IsOfForm Function) (three_of ws)
    (λ w. new_name table Functions line (nat_lt c.functions FUNCTIONS) w.0
    >>= (λ u. count_of 0 LOCALS w.1 >>= (λ p. count_of 0 LOCALS w.2 >>= (λ v. Ok (AddsFunction p v)))))
    (λ w. bound (IsOfForm Function) (new_name table Functions line (nat_lt c.functions FUNCTIONS) w.0)
    (λ u. count_of 0 LOCALS w.1 >>= (λ p. count_of 0 LOCALS w.2 >>= (λ v. Ok (AddsFunction p v))))
    (λ u. bound (IsOfForm Function) (count_of 0 LOCALS w.1) (λ p. count_of 0 LOCALS w.2 >>= (λ v. Ok (AddsFunction p v)))
    (λ p. bound (IsOfForm Function) (count_of 0 LOCALS w.2) (λ v. Ok (AddsFunction p v)) (λ v. refl))))

-- what the word of a label's line says, where it is no fault, adds what that form says
label_adds : (table : List Definition) (c : Counts) (line : ℕ) (name : Option Word)
    → IfOk (label_of_line table c line name) (IsOfForm Label)
unfolding label_of_line
label_adds table c line None = refl
label_adds table c line (Some name) =
    bound (IsOfForm Label) (new_name table (Labels c.functions) line true name) (λ u. Ok Nothing) (λ u. refl)

-- what the words of a catch's line say, where it is no fault, adds what that form says
catch_adds : (table : List Definition) (c : Counts) (ws : List Word) → IfOk (catch_of table c ws) (IsOfForm Catch)
unfolding catch_of
catch_adds table c ws =
    bound (IsOfForm Catch) (three_of ws)
    (λ w. room_for (nat_lt c.catches CATCHES)
    >>= (λ u. meaning_of table (Labels c.functions) w.0 >>= (λ a. meaning_of table (Labels c.functions) w.1
    >>= (λ b. meaning_of table (Labels c.functions) w.2 >>= (λ d. Ok (AddsCatch (record { from = a; to = b; target = d })))))))
    (λ w. bound (IsOfForm Catch) (room_for (nat_lt c.catches CATCHES))
    (λ u. meaning_of table (Labels c.functions) w.0 >>= (λ a. meaning_of table (Labels c.functions) w.1
    >>= (λ b. meaning_of table (Labels c.functions) w.2 >>= (λ d. Ok (AddsCatch (record { from = a; to = b; target = d }))))))
    (λ u. bound (IsOfForm Catch) (meaning_of table (Labels c.functions) w.0)
    (λ a. meaning_of table (Labels c.functions) w.1
    >>= (λ b. meaning_of table (Labels c.functions) w.2 >>= (λ d. Ok (AddsCatch (record { from = a; to = b; target = d })))))
    (λ a. bound (IsOfForm Catch) (meaning_of table (Labels c.functions) w.1)
    (λ b. meaning_of table (Labels c.functions) w.2 >>= (λ d. Ok (AddsCatch (record { from = a; to = b; target = d }))))
    (λ b. bound (IsOfForm Catch) (meaning_of table (Labels c.functions) w.2)
    (λ d. Ok (AddsCatch (record { from = a; to = b; target = d }))) (λ d. refl)))))

-- what the words of a line of inputs say, where it is no fault, adds what that form says
inputs_add : (have : ℕ) (ws : List Word) → IfOk (inputs_of have ws) (IsOfForm Inputs)
unfolding inputs_of
inputs_add have ws =
    bound (IsOfForm Inputs) (room_for (not (is_some (slice_get ws (INPUTS - have + 1)))))
    (λ u. values_of (rest_of ws) >>= (λ zs. Ok (AddsInputs zs)))
    (λ u. bound (IsOfForm Inputs) (values_of (rest_of ws)) (λ zs. Ok (AddsInputs zs)) (λ zs. refl))

-- what the words of an instruction's line say, where it is no fault, adds what that form says
instruction_adds : (table : List Definition) (c : Counts) (i : Instr) (ws : List Word)
    → IfOk (instruction_of table c i ws) (IsOfForm (Instruction i))
unfolding instruction_of
instruction_adds table c i ws =
    bound (IsOfForm (Instruction i)) (with_operands table c i (operand_of i) ws) (λ j. Ok (AddsInstruction j)) (λ j. refl)

-- a line of a form adds what the form says
form_adds : (table : List Definition) (c : Counts) (line have : ℕ) (form : Form) (ws : List Word)
    → IfOk (form_says table c line have (Some form) ws) (IsOfForm form)
form_adds table c line have Blank ws = refl
form_adds table c line have Class ws = class_adds table c line (rest_of ws)
form_adds table c line have Function ws = function_adds table c line (rest_of ws)
form_adds table c line have Label ws = label_adds table c line (defined_word (Some Label) ws)
form_adds table c line have Catch ws = catch_adds table c (rest_of ws)
form_adds table c line have Inputs ws = inputs_add have ws
form_adds table c line have (Instruction i) ws = instruction_adds table c i (rest_of ws)

-- there is a second word
abbrev pub HasSecond : List Word → Type 0
HasSecond ws = (word : Word) × (slice_get ws 1 ≡ Some word)

-- a function's header has a second word
header_names : (table : List Definition) (c : Counts) (line : ℕ) (ws : List Word)
    → IfOk (function_of table c line (rest_of ws)) (λ a. HasSecond ws)
unfolding function_of
header_names table c line [] = tt
header_names table c line (w ∷ []) = tt
header_names table c line (w ∷ v ∷ ws) = in_any (HasSecond (w ∷ v ∷ ws)) (function_of table c line (v ∷ ws)) (v, refl)

-- a line has a form, which says what it adds, and a function's header has a name
pub record IsSaid (ws : List Word) (form : Option Form) (a : Addition) : Type 0 where
  pub told : Form
  pub has : form ≡ Some told
  pub adds : IsOfForm told a
  pub named : told ≡ Function → HasSecond ws

-- what is named by the words of a header is named by those of any line that is one
names : (table : List Definition) (c : Counts) (line have : ℕ) (form : Form) (ws : List Word)
    → IfOk (form_says table c line have (Some form) ws) (λ a. form ≡ Function → HasSecond ws)
names table c line have Blank ws = λ is. cc
names table c line have Class ws = in_any (Class ≡ Function → HasSecond ws) (class_of table c line (rest_of ws)) (λ is. cc)
names table c line have Function ws = under (function_of table c line (rest_of ws)) (header_names table c line ws)
  where
    under : (r : Result Addition ℕ) → IfOk r (λ a. HasSecond ws) → IfOk r (λ a. Function ≡ Function → HasSecond ws)
    under (Ok a) has = λ is. has
    under (Err kind) has = tt
names table c line have Label ws =
    in_any (Label ≡ Function → HasSecond ws) (label_of_line table c line (defined_word (Some Label) ws)) (λ is. cc)
names table c line have Catch ws = in_any (Catch ≡ Function → HasSecond ws) (catch_of table c (rest_of ws)) (λ is. cc)
names table c line have Inputs ws = in_any (Inputs ≡ Function → HasSecond ws) (inputs_of have ws) (λ is. cc)
names table c line have (Instruction i) ws =
    in_any (Instruction i ≡ Function → HasSecond ws) (instruction_of table c i (rest_of ws)) (λ is. cc)

-- both of an answer
both : (ws : List Word) (form : Form) (r : Result Addition ℕ) → IfOk r (IsOfForm form) → IfOk r (λ a. form ≡ Function → HasSecond ws)
    → IfOk r (IsSaid ws (Some form))
both ws form (Ok a) one other = record { told = form; has = refl; adds = one; named = other }
both ws form (Err kind) one other = tt

-- what holds of a reading's success holds of it where a test that fails is a fault
either : (b : Bool) (r : Result Addition ℕ) (kind : ℕ) (Q : Addition → Type 0) → IfOk r Q → IfOk (if b then r else Err kind) Q
either true r kind Q holds = holds
either false r kind Q holds = tt

-- what holds of a reading's success holds of it where a test that passes is a fault
or_else : (b : Bool) (r : Result Addition ℕ) (kind : ℕ) (Q : Addition → Type 0) → IfOk r Q → IfOk (if b then Err kind else r) Q
or_else true r kind Q holds = tt
or_else false r kind Q holds = holds

-- what words say, where it is no fault, is told by their form
words_add : (table : List Definition) (c : Counts) (line have : ℕ) (form : Option Form) (ws : List Word)
    → IfOk (words_say table c line have form ws) (IsSaid ws form)
words_add table c line have None ws =
    either (is_placed c None) (form_says table c line have None ws) MISPLACED (IsSaid ws None) tt
words_add table c line have (Some form) ws =
    either (is_placed c (Some form)) (form_says table c line have (Some form) ws) MISPLACED (IsSaid ws (Some form))
    (both ws form (form_says table c line have (Some form) ws) (form_adds table c line have form ws) (names table c line have form ws))

-- what a line says, where it is no fault, is told by the form of its words
line_adds : (table : List Definition) (c : Counts) (line have : ℕ) (text : List ℕ)
    → IfOk (said table c line have text) (IsSaid (words text) (form_of (words text)))
unfolding said
line_adds table c line have text =
    or_else (is_bad text) (words_say table c line have (form_of (words text)) (words text)) BAD_BYTE
    (IsSaid (words text) (form_of (words text))) (words_add table c line have (form_of (words text)) (words text))

-- ## The first of some lines

-- the additions of some lines are that of the first and those of the others
pub record ReadsOne (table : List Definition) (c : Counts) (line have : ℕ) (text : List ℕ) (rest : List (List ℕ)) (adding : List Addition)
    : Type 0 where
  pub first : Addition
  pub others : List Addition
  pub same : adding ≡ first ∷ others
  pub is : IsSaid (words text) (form_of (words text)) first
  pub counts : Counts
  pub inputs : ℕ
  pub later : read_from table counts (line + 1) inputs rest ≡ Ok others

-- a list in two parts
others_ok : {E : Type 0} (a : Addition) (s : Result (List Addition) E) (adding : List Addition)
    → (s >>= (λ others. Ok (a ∷ others))) ≡ Ok adding → (others : List Addition) × (s ≡ Ok others) × (adding ≡ a ∷ others)
others_ok a (Ok others) adding is = (others, refl, cc)
others_ok a (Err fault) adding is = cc

-- where a line and then others are read without a fault, each of them is
first_ok : (line : ℕ) (r : Result Addition ℕ) (f : Addition → Result (List Addition) LineFault) (adding : List Addition)
    → (at_line line r >>= (λ a. f a >>= (λ others. Ok (a ∷ others)))) ≡ Ok adding
    → (a : Addition) × (r ≡ Ok a) × (others : List Addition) × (f a ≡ Ok others) × (adding ≡ a ∷ others)
first_ok line (Ok a) f adding is =
    let parts = others_ok a (f a) adding is in
    (a, refl, parts.0, parts.1, parts.2)
first_ok line (Err kind) f adding is = cc

-- the additions of some lines that are read without a fault are that of the first and those of the others
pub reads_one : (table : List Definition) (c : Counts) (line have : ℕ) (text : List ℕ) (rest : List (List ℕ)) (adding : List Addition)
    → read_from table c line have (text ∷ rest) ≡ Ok adding → ReadsOne table c line have text rest adding
reads_one table c line have text rest adding is =
    let parts = first_ok line (said table c line have text)
    (λ a. read_from table (counted c (form_of (words text))) (line + 1) (have + length (inputs_in a)) rest) adding is in
    record {
      first = parts.0;
      others = parts.2;
      same = parts.4;
      is = of_ok (IsSaid (words text) (form_of (words text))) (said table c line have text) parts.0
          (line_adds table c line have text) parts.1;
      counts = counted c (form_of (words text));
      inputs = have + length (inputs_in parts.0);
      later = parts.3;
    }
