-- The meaning of a whole text: what its lines add, or its first fault.
use Rattle.std.specs.Prelude.{◌≡◌, ℕ, ℤ, ◌+◌, ◌-◌, nat_lt, ◌==◌, ◌&&◌, ◌⊎◌, List, [], ◌∷◌, ◌++◌, length, fold, Bool, false, Option, Some, None, option_map, Result, Ok, Err, if◌then◌else◌, codes}
use Rattle.std.specs.List.{flat_map}
use Rattle.std.specs.Str.Lines.{lines}
use Rattle.gl_text.specs.Text.{words}
use Rattle.gl_text.specs.declared.fault.TextError.{TextError}
use Rattle.gl_text.specs.declared.fault.TextError.TheVariants.{Fault, Memory}
use Rattle.gl_text.specs.declared.kinds.TheConstants.{PROGRAM_FAULT_BASE}
use Rattle.gl_text.specs.declared.kinds.TheConstants as kinds
use Rattle.gl_bytecode.specs.declared.fault.ProgFault.{ProgFault}
use Rattle.gl_bytecode.specs.declared.fault.TheConstants.{FALLS_OFF_END, NO_MAIN, STACK_DEPTH, TOO_LONG}
use Rattle.gl_bytecode.specs.Faults.{IsFaultless, IsFirstFault as IsProgramsFirstFault}
use Rattle.gl_bytecode.specs.Programs.{Bytecode, Draft, draft_of, with_catch, with_instr}
use Rattle.gl_asm.specs.declared.additions.Addition.{Addition}
use Rattle.gl_asm.specs.declared.additions.Addition.TheVariants.{Nothing, Class as AddsClass, Function as AddsFunction, Instruction as AddsInstruction, Catch as AddsCatch, Inputs as AddsInputs}
use Rattle.gl_asm.specs.declared.definitions.Definition.{Definition}
use Rattle.gl_asm.specs.declared.definitions.Scope.TheVariants.{Functions}
use Rattle.gl_asm.specs.declared.forms.Counts.{Counts}
use Rattle.gl_asm.specs.declared.forms.Form.{Form}
use Rattle.gl_asm.specs.declared.forms.Form.TheVariants.{Function, Catch, Instruction}
use Rattle.gl_asm.specs.declared.limits.TheConstants.{LONGEST}
use Rattle.gl_asm.specs.declared.places.Place.{Place}
use Rattle.gl_asm.specs.declared.places.Place.TheVariants.{OfHeader, OfInstruction, OfCatch}
use Rattle.gl_asm.specs.Definitions.{definitions, first_definition}
use Rattle.gl_asm.specs.Forms.{counted, form_of, more, none_yet}
use Rattle.gl_asm.specs.Additions.{◌>>=◌}
use Rattle.gl_asm.specs.Sayings.{said}

-- a line and a kind
abbrev pub LineFault : Type 0
LineFault = ℕ × ℕ

-- ## What the lines add

abbrev pub inputs_in : Addition → List ℤ
inputs_in (AddsInputs values) = values
inputs_in _ = []

abbrev pub added : Draft → Addition → Draft
added D Nothing = D
added D (AddsClass plain volatile) = record D { classes = D.classes ++ (record { plain = plain; volatile = volatile }) ∷ [] }
added D (AddsFunction args locals) = record D {
  functions = D.functions
      ++ (record { args = args; locals = locals; code = []; catches = [] }) ∷ [];
}
added D (AddsInstruction i) = with_instr i D
added D (AddsCatch c) = with_catch c D
added D (AddsInputs values) = D

abbrev pub at_line : ℕ → Result Addition ℕ → Result Addition LineFault
at_line line (Ok a) = Ok a
at_line line (Err kind) = Err (line, kind)

-- what the lines from this number on add, behind lines of these counts and so many inputs, or the first fault
abbrev pub read_from : List Definition → Counts → ℕ → ℕ → List (List ℕ) → Result (List Addition) LineFault
read_from table c line have [] = Ok []
read_from table c line have (text ∷ rest) =
    at_line line (said table c line have text)
    >>= (λ a. read_from table (counted c (form_of (words text))) (line + 1) (have + length (inputs_in a)) rest >>=
    (λ others. Ok (a ∷ others)))

-- the draft and the inputs with what is added
abbrev pub built : Draft → List ℤ → Result (List Addition) LineFault → Result (Draft × List ℤ) LineFault
built D inputs (Ok additions) = Ok (fold added D additions, inputs ++ flat_map inputs_in additions)
built D inputs (Err fault) = Err fault

-- nothing is added yet; main is the function of that name, wherever it stands
abbrev pub start : List Definition → Draft
start table = record { classes = []; functions = []; main = option_map (λ d. d.number) (first_definition table Functions (codes "main")) }

abbrev pub lines_read : List (List ℕ) → Result (Draft × List ℤ) LineFault
lines_read ls = built (start (definitions ls)) [] (read_from (definitions ls) none_yet 1 0 ls)

-- what a text means, apart from what is wrong with the program; one that is too long has its fault in line 0
unfoldable pub text_read : List ℕ → Result (Draft × List ℤ) LineFault
text_read text = if nat_lt LONGEST (length text) then Err (0, kinds.TOO_LONG) else lines_read (lines text)

-- ## The lines of a program's faults

abbrev pub is_at : Place → Counts → Option Form → Bool
is_at (OfHeader f) c (Some Function) = c.functions == f
is_at (OfInstruction f at) c (Some (Instruction i)) = (c.functions == f + 1) && (c.places == at)
is_at (OfCatch f k) c (Some Catch) = (c.functions == f + 1) && (c.catches == k)
is_at place c form = false

-- the first line of a place, behind lines of these counts
abbrev pub line_from : Place → Counts → ℕ → List (List ℕ) → Option ℕ
line_from place c line [] = None
line_from place c line (text ∷ rest) =
    if is_at place c (form_of (words text)) then Some line else line_from place (counted c (form_of (words text))) (line + 1) rest

abbrev pub line_of : List (List ℕ) → Place → Option ℕ
line_of ls place = line_from place none_yet 1 ls

abbrev pub is_code : ℕ → Counts → Option Form → Bool
is_code f c (Some (Instruction i)) = c.functions == f + 1
is_code f c form = false

-- so many instructions, and those that the lines add to function f
abbrev pub code_from : ℕ → ℕ → Counts → List (List ℕ) → ℕ
code_from f n c [] = n
code_from f n c (text ∷ rest) =
    code_from f (if is_code f c (form_of (words text)) then more n else n) (counted c (form_of (words text))) rest

abbrev pub code_length : List (List ℕ) → ℕ → ℕ
code_length ls f = code_from f 0 none_yet ls

abbrev pub or_line : Option ℕ → ℕ → ℕ
or_line (Some line) other = line
or_line None other = other

abbrev pub header_line : List (List ℕ) → ProgFault → ℕ
header_line ls fault = or_line (line_of ls (OfHeader fault.function)) 0

abbrev pub catch_line_of : List (List ℕ) → ProgFault → ℕ
catch_line_of ls fault = or_line (line_of ls (OfCatch fault.function (fault.at - code_length ls fault.function))) 0

-- the line of a program's fault: none of the whole program's, the header's of depths, the last instruction's or the
-- header's of a function's end, else the instruction's or the catch's own
abbrev pub fault_line : List (List ℕ) → ProgFault → ℕ
fault_line ls fault =
    if fault.kind == NO_MAIN then 0
    else if fault.kind == TOO_LONG then 0
    else if fault.kind == STACK_DEPTH then header_line ls fault
    else if fault.kind == FALLS_OFF_END then or_line (line_of ls (OfInstruction fault.function fault.at)) (header_line ls fault)
    else or_line (line_of ls (OfInstruction fault.function fault.at)) (catch_line_of ls fault)

-- ## Texts and their first faults

-- by this reading the text has no fault, and this program and these inputs
pub record IsTextBy (reading : Result (Draft × List ℤ) LineFault) (program : Bytecode) (inputs : List ℤ) : Type 0 where
  pub read : reading ≡ Ok (draft_of program, inputs)
  pub faultless : IsFaultless program

-- by this reading the lines have no fault, but the program that they make has this one
pub record HasProgramFault (reading : Result (Draft × List ℤ) LineFault) (text : List ℕ) (line kind : ℕ) : Type 0 where
  pub draft : Draft
  pub inputs : List ℤ
  pub fault : ProgFault
  pub read : reading ≡ Ok (draft, inputs)
  pub first : IsProgramsFirstFault draft fault
  pub line_is : line ≡ fault_line (lines text) fault
  pub kind_is : kind ≡ PROGRAM_FAULT_BASE + fault.kind

-- by this reading the first fault: one of a line, and only where there is none, one of the program
abbrev pub IsFirstFaultBy : Result (Draft × List ℤ) LineFault → List ℕ → ℕ → ℕ → Type 0
IsFirstFaultBy reading text line kind = (reading ≡ Err (line, kind)) ⊎ HasProgramFault reading text line kind

-- the text has no fault, and this program and these inputs
abbrev pub IsText : List ℕ → Bytecode → List ℤ → Type 0
IsText text program inputs = IsTextBy (text_read text) program inputs

-- the first fault of a text
abbrev pub IsFirstFault : List ℕ → ℕ → ℕ → Type 0
IsFirstFault text line kind = IsFirstFaultBy (text_read text) text line kind

-- an error that is not want of memory is the first fault
abbrev pub TellsFirstBy : Result (Draft × List ℤ) LineFault → List ℕ → TextError → Type 0
TellsFirstBy reading text (Fault f) = IsFirstFaultBy reading text f.line f.kind
TellsFirstBy reading text (Memory e) = Unit {0}

abbrev pub TellsFirst : List ℕ → TextError → Type 0
TellsFirst text error = TellsFirstBy (text_read text) text error

-- an error that is not want of memory is that of the lines
abbrev pub TellsLine : {A : Type 0} → Result A LineFault → TextError → Type 0
TellsLine r (Fault f) = r ≡ Err (f.line, f.kind)
TellsLine r (Memory e) = Unit {0}
