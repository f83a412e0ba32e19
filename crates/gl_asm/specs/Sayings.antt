-- What a line says, behind the lines before it: what it adds, or the kind of its fault.
use Rattle.std.specs.Prelude.{◌≡◌, ℕ, ◌<◌, List, Bool, true, not, ◌==◌, ◌&&◌, Option, Some, None, Result, Ok, Err, if◌then◌else◌}
use Rattle.gl_text.specs.Text.{is_bad, words}
use Rattle.gl_text.specs.declared.kinds.TheConstants.{BAD_BYTE, UNKNOWN_WORD, MISPLACED}
use Rattle.gl_asm.specs.declared.additions.Addition.{Addition}
use Rattle.gl_asm.specs.declared.additions.Addition.TheVariants.{Nothing, Function as AddsFunction, Instruction as AddsInstruction, Catch as AddsCatch}
use Rattle.gl_asm.specs.declared.definitions.Definition.{Definition}
use Rattle.gl_asm.specs.declared.forms.Counts.{Counts}
use Rattle.gl_asm.specs.declared.forms.Form.{Form}
use Rattle.gl_asm.specs.declared.forms.Form.TheVariants.{Blank, Class, Function, Label, Catch, Inputs, Instruction}
use Rattle.gl_asm.specs.declared.refusal.Refusal.{Refusal}
use Rattle.gl_asm.specs.declared.refusal.Refusal.TheVariants.{Kind, Memory}
use Rattle.gl_bytecode.specs.Faults.{ThrowsInRange}
use Rattle.gl_text.specs.declared.fault.TextError.{TextError}
use Rattle.gl_text.specs.declared.fault.TextError.TheVariants.{Fault, Memory as NoMemory}
use Rattle.gl_asm.specs.Additions.{Word, catch_of, class_of, function_of, inputs_of, instruction_of, label_of_line, rest_of}
use Rattle.gl_asm.specs.Definitions.{defined_word}
use Rattle.gl_asm.specs.Forms.{ThrowsForm, form_of}

-- classes stand before all functions; labels, catches and instructions in a function
abbrev pub is_in_section : Counts → Form → Bool
is_in_section c Blank = true
is_in_section c Class = c.functions == 0
is_in_section c Function = true
is_in_section c Label = not (c.functions == 0)
is_in_section c Catch = not (c.functions == 0)
is_in_section c Inputs = true
is_in_section c (Instruction i) = not (c.functions == 0)

-- behind a line of inputs comes no line of another form; a line of no form is nowhere else misplaced
abbrev pub is_placed : Counts → Option Form → Bool
is_placed c None = not c.given
is_placed c (Some Blank) = true
is_placed c (Some Inputs) = true
is_placed c (Some form) = not c.given && is_in_section c form

-- what a line of this form says, where its form may stand
abbrev pub form_says : List Definition → Counts → ℕ → ℕ → Option Form → List Word → Result Addition ℕ
form_says table c line have None ws = Err UNKNOWN_WORD
form_says table c line have (Some Blank) ws = Ok Nothing
form_says table c line have (Some Class) ws = class_of table c line (rest_of ws)
form_says table c line have (Some Function) ws = function_of table c line (rest_of ws)
form_says table c line have (Some Label) ws = label_of_line table c line (defined_word (Some Label) ws)
form_says table c line have (Some Catch) ws = catch_of table c (rest_of ws)
form_says table c line have (Some Inputs) ws = inputs_of have ws
form_says table c line have (Some (Instruction i)) ws = instruction_of table c i (rest_of ws)

abbrev pub words_say : List Definition → Counts → ℕ → ℕ → Option Form → List Word → Result Addition ℕ
words_say table c line have form ws = if is_placed c form then form_says table c line have form ws else Err MISPLACED

-- what a line says, where the lines before have these counts and so many inputs
unfoldable pub said : List Definition → Counts → ℕ → ℕ → List ℕ → Result Addition ℕ
said table c line have text = if is_bad text then Err BAD_BYTE else words_say table c line have (form_of (words text)) (words text)

-- ## What a reader answers

-- a refusal that is not want of memory tells the kind
abbrev pub Refused : {A : Type 0} → Result A ℕ → Refusal → Type 0
Refused r (Kind kind) = r ≡ Err kind
Refused r (Memory e) = Unit {0}

-- where a function starts, one is added
abbrev pub IsFunction : Addition → Type 0
IsFunction (AddsFunction args locals) = Unit {0}
IsFunction _ = ⊥

abbrev pub StartsFunction : Option Form → Addition → Type 0
StartsFunction (Some Function) a = IsFunction a
StartsFunction _ a = Unit {0}

abbrev pub ThrowsIn : Option Form → Type 0
ThrowsIn None = Unit {0}
ThrowsIn (Some form) = ThrowsForm form

abbrev pub IsNoInputs : Option Form → Type 0
IsNoInputs (Some Inputs) = ⊥
IsNoInputs _ = Unit {0}

-- what is added to a function has one, where there are so many
abbrev pub HasFunction : ℕ → Addition → Type 0
HasFunction functions (AddsInstruction i) = (0 < functions) × ThrowsInRange i
HasFunction functions (AddsCatch c) = 0 < functions
HasFunction functions _ = Unit {0}

-- a refusal of the line with this number
abbrev pub refused_at : ℕ → Refusal → TextError
refused_at line (Kind kind) = Fault (record { line = line; kind = kind })
refused_at line (Memory e) = NoMemory e
