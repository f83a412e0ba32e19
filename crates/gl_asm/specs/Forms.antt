-- The forms of lines, and how many lines of each form stand before a line.
use Rattle.std.specs.Prelude.{ℕ, ◌+◌, List, [], ◌∷◌, Bool, true, false, not, ◌&&◌, Option, Some, None, option_map, bytes_eq, codes, if◌then◌else◌, min, is_some}
use Rattle.gl_asm.specs.declared.forms.Counts.{Counts}
use Rattle.gl_asm.specs.declared.forms.Form.{Form}
use Rattle.gl_asm.specs.declared.forms.Form.TheVariants.{Blank, Class, Function, Label, Catch, Inputs, Instruction}
use Rattle.gl_asm.specs.declared.limits.TheConstants.{MOST_COUNT}
use Rattle.gl_asm.specs.Names.{label_of}
use Rattle.gl_asm.specs.Words.{template_of}
use Rattle.gl_bytecode.specs.Faults.{ThrowsInRange}

-- what the first word tells; `input` alone is an instruction
abbrev pub word_form : List ℕ → Bool → Option Form
word_form word alone =
    if bytes_eq word (codes "class") then Some Class
    else if bytes_eq word (codes "func") then Some Function
    else if bytes_eq word (codes "catch") then Some Catch
    else if bytes_eq word (codes "input") && not alone then Some Inputs
    else option_map Instruction (template_of word)

-- the form that the words of a line tell, if they tell one
abbrev pub form_of : List (List ℕ) → Option Form
form_of [] = Some Blank
form_of (word ∷ []) = if is_some (label_of word) then Some Label else word_form word true
form_of (word ∷ other ∷ more) = word_form word false

-- a count goes up to `MOST_COUNT`, which no program within the limits reaches
abbrev pub more : ℕ → ℕ
more n = min (n + 1) MOST_COUNT

-- no line
abbrev pub none_yet : Counts
none_yet = record { classes = 0; functions = 0; places = 0; catches = 0; given = false }

-- the counts behind a line of this form; places and catches are those of the last function
abbrev pub counted : Counts → Option Form → Counts
counted c None = c
counted c (Some Blank) = c
counted c (Some Class) = record c { classes = more c.classes }
counted c (Some Function) = record c { functions = more c.functions; places = 0; catches = 0 }
counted c (Some Label) = c
counted c (Some Catch) = record c { catches = more c.catches }
counted c (Some Inputs) = record c { given = true }
counted c (Some (Instruction i)) = record c { places = more c.places }

-- the code that its instruction throws, if any, is in range
abbrev pub ThrowsForm : Form → Type 0
ThrowsForm (Instruction i) = ThrowsInRange i
ThrowsForm Blank = Unit {0}
ThrowsForm Class = Unit {0}
ThrowsForm Function = Unit {0}
ThrowsForm Label = Unit {0}
ThrowsForm Catch = Unit {0}
ThrowsForm Inputs = Unit {0}
