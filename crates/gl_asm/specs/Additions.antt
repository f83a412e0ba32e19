-- What a line adds to a program, or the kind of its fault: the checks come in the order in which they are made.
use Rattle.std.specs.Prelude.{ℕ, ℤ, pos, ◌<◌, ◌≤◌, length, ◌+◌, ◌-◌, List, [], ◌∷◌, Bool, true, false, not, nat_lt, Option, Some, None, Result, Ok, Err, if◌then◌else◌, slice_get, is_some}
use Rattle.gl_text.specs.Number.{number_of}
use Rattle.gl_text.specs.declared.kinds.TheConstants.{WORD_COUNT, BAD_NUMBER, NAME_TAKEN, NAME_UNKNOWN, BAD_NAME, TOO_MANY}
use Rattle.gl_model.specs.declared.limits.TheConstants.{CLASSES, FUNCTIONS, INPUTS, VARIABLES, VOLATILES}
use Rattle.gl_asm.specs.declared.additions.Addition.{Addition}
use Rattle.gl_asm.specs.declared.additions.Addition.TheVariants.{Nothing as AddsNothing, Class as AddsClass, Function as AddsFunction, Instruction as AddsInstruction, Catch as AddsCatch, Inputs as AddsInputs}
use Rattle.gl_asm.specs.declared.definitions.Definition.{Definition}
use Rattle.gl_asm.specs.declared.definitions.Scope.{Scope}
use Rattle.gl_asm.specs.declared.definitions.Scope.TheVariants.{Classes, Functions, Labels}
use Rattle.gl_asm.specs.declared.forms.Counts.{Counts}
use Rattle.gl_asm.specs.declared.limits.TheConstants.{LEAST_VALUE, MOST_INDEX, MOST_VALUE}
use Rattle.gl_bytecode.specs.declared.limits.TheConstants.{CATCHES, LEAST_THROWN, LOCALS, MOST_THROWN}
use Rattle.gl_asm.specs.declared.table.Operand.{Operand}
use Rattle.gl_asm.specs.declared.table.Operand.TheVariants as operands
use Rattle.gl_asm.specs.Definitions.{first_definition}
use Rattle.gl_asm.specs.Names.{is_name}
use Rattle.gl_asm.specs.Words.{filled, operand_of}
use Rattle.gl_bytecode.specs.declared.instr.Instr.{Instr}
use Rattle.gl_bytecode.specs.declared.instr.Instr.TheVariants.{Throw}
use Rattle.gl_bytecode.specs.Faults.{ThrowsInRange}

infixl 10 ◌>>=◌
abbrev pub ◌>>=◌ : {A B E : Type 0} → Result A E → (A → Result B E) → Result B E
(Ok x) >>= f = f x
(Err kind) >>= f = Err kind

abbrev pub Word : Type 0
Word = List ℕ

-- ## How many words

abbrev pub none_of : List Word → Result (Unit {0}) ℕ
none_of [] = Ok tt
none_of (a ∷ more) = Err WORD_COUNT

abbrev pub one_of : List Word → Result Word ℕ
one_of (a ∷ []) = Ok a
one_of _ = Err WORD_COUNT

abbrev pub two_of : List Word → Result (Word × Word) ℕ
two_of (a ∷ b ∷ []) = Ok (a, b)
two_of _ = Err WORD_COUNT

abbrev pub three_of : List Word → Result (Word × Word × Word) ℕ
three_of (a ∷ b ∷ c ∷ []) = Ok (a, b, c)
three_of _ = Err WORD_COUNT

abbrev pub rest_of : List Word → List Word
rest_of [] = []
rest_of (a ∷ more) = more

-- ## Numbers

abbrev pub natural : Option ℤ → Result ℕ ℕ
natural (Some (pos n)) = Ok n
natural _ = Err BAD_NUMBER

-- a number from least to most
abbrev pub count_of : ℕ → ℕ → Word → Result ℕ ℕ
count_of least most word = natural (number_of (pos least) (pos most) word)

abbrev pub found : Option ℤ → Result ℤ ℕ
found (Some z) = Ok z
found None = Err BAD_NUMBER

abbrev pub value_of : Word → Result ℤ ℕ
value_of word = found (number_of LEAST_VALUE MOST_VALUE word)

abbrev pub values_of : List Word → Result (List ℤ) ℕ
values_of [] = Ok []
values_of (word ∷ more) = value_of word >>= (λ z. values_of more >>= (λ zs. Ok (z ∷ zs)))

-- ## Names

abbrev pub is_before : ℕ → Option Definition → Bool
is_before line None = false
is_before line (Some d) = nat_lt d.line line

-- the name that a line defines: it is one, there is room, and no earlier line defines it
abbrev pub new_name : List Definition → Scope → ℕ → Bool → Word → Result (Unit {0}) ℕ
new_name table scope line room name =
    if not (is_name name) then Err BAD_NAME
    else if not room then Err TOO_MANY
    else if is_before line (first_definition table scope name) then Err NAME_TAKEN
    else Ok tt

abbrev pub meant : Option Definition → Result ℕ ℕ
meant None = Err NAME_UNKNOWN
meant (Some d) = Ok d.number

-- what a name stands for that some line defines
abbrev pub meaning_of : List Definition → Scope → Word → Result ℕ ℕ
meaning_of table scope name = meant (first_definition table scope name)

-- ## Lines

unfoldable pub class_of : List Definition → Counts → ℕ → List Word → Result Addition ℕ
class_of table c line others = do
  w ← three_of others
  u ← new_name table Classes line (nat_lt c.classes CLASSES) w.0
  plain ← count_of 0 VARIABLES w.1
  volatile ← count_of 0 VOLATILES w.2
  Ok (AddsClass plain volatile)

unfoldable pub function_of : List Definition → Counts → ℕ → List Word → Result Addition ℕ
function_of table c line others = do
  w ← three_of others
  u ← new_name table Functions line (nat_lt c.functions FUNCTIONS) w.0
  args ← count_of 0 LOCALS w.1
  locals ← count_of 0 LOCALS w.2
  Ok (AddsFunction args locals)

unfoldable pub label_of_line : List Definition → Counts → ℕ → Option Word → Result Addition ℕ
label_of_line table c line None = Ok AddsNothing
label_of_line table c line (Some name) = new_name table (Labels c.functions) line true name >>= (λ u. Ok AddsNothing)

abbrev pub room_for : Bool → Result (Unit {0}) ℕ
room_for room = if room then Ok tt else Err TOO_MANY

unfoldable pub catch_of : List Definition → Counts → List Word → Result Addition ℕ
catch_of table c others = do
  w ← three_of others
  u ← room_for (nat_lt c.catches CATCHES)
  from ← meaning_of table (Labels c.functions) w.0
  to ← meaning_of table (Labels c.functions) w.1
  target ← meaning_of table (Labels c.functions) w.2
  Ok (AddsCatch (record { from = from; to = to; target = target }))

-- the inputs of a line of these words, where the lines before have so many
unfoldable pub inputs_of : ℕ → List Word → Result Addition ℕ
inputs_of have ws = do
  u ← room_for (not (is_some (slice_get ws (INPUTS - have + 1))))
  values ← values_of (rest_of ws)
  Ok (AddsInputs values)

abbrev pub with_nothing : Instr → List Word → Result Instr ℕ
with_nothing i others = do
  u ← none_of others
  Ok i

abbrev pub with_value : Instr → List Word → Result Instr ℕ
with_value i others = do
  word ← one_of others
  value ← value_of word
  Ok (filled i 0 value)

abbrev pub with_index : Instr → List Word → Result Instr ℕ
with_index i others = do
  word ← one_of others
  index ← count_of 0 MOST_INDEX word
  Ok (filled i index (pos 0))

abbrev pub with_both : Instr → List Word → Result Instr ℕ
with_both i others = do
  w ← two_of others
  index ← count_of 0 MOST_INDEX w.0
  value ← value_of w.1
  Ok (filled i index value)

abbrev pub with_code : List Word → Result Instr ℕ
with_code others = do
  word ← one_of others
  code ← count_of LEAST_THROWN MOST_THROWN word
  Ok (Throw code)

abbrev pub with_meaning : List Definition → Scope → Instr → List Word → Result Instr ℕ
with_meaning table scope i others = do
  word ← one_of others
  number ← meaning_of table scope word
  Ok (filled i number (pos 0))

-- an instruction with its operands
unfoldable pub with_operands : List Definition → Counts → Instr → Operand → List Word → Result Instr ℕ
with_operands table c i operands.Nothing others = with_nothing i others
with_operands table c i (operands.Value n) others = with_value i others
with_operands table c i (operands.Index k) others = with_index i others
with_operands table c i (operands.IndexAndValue k n) others = with_both i others
with_operands table c i (operands.Code code) others = with_code others
with_operands table c i (operands.Label to) others = with_meaning table (Labels c.functions) i others
with_operands table c i (operands.Function f) others = with_meaning table Functions i others
with_operands table c i (operands.Class k) others = with_meaning table Classes i others

-- what an instruction's line adds
unfoldable pub instruction_of : List Definition → Counts → Instr → List Word → Result Addition ℕ
instruction_of table c i others =
    with_operands table c i (operand_of i) others >>= (λ j. Ok (AddsInstruction j))

-- what is added to a function has one, where there are so many; the inputs are no more than there is room for
abbrev pub IsPlaced : ℕ → ℕ → Addition → Type 0
IsPlaced functions room (AddsInstruction i) = (0 < functions) × ThrowsInRange i
IsPlaced functions room (AddsCatch c) = 0 < functions
IsPlaced functions room (AddsInputs values) = length values ≤ room
IsPlaced functions room _ = Unit {0}
