-- What a line adds, as far as it moves the place of the next instruction.
use Rattle.std.specs.Prelude.{ℕ, ◌+◌, ◌==◌, ◌&&◌, not, List, [], ◌∷◌, Bool, true, false, Option, Some, None, bytes_eq, codes, if◌then◌else◌, is_some}
use Rattle.gl_asm.specs.declared.additions.Addition.{Addition}
use Rattle.gl_asm.specs.declared.additions.Addition.TheVariants as additions
use Rattle.gl_asm.specs.declared.forms.Form.{Form}
use Rattle.gl_asm.specs.declared.forms.Form.TheVariants as forms
use Rattle.gl_asm.specs.Names.{label_of}
use Rattle.gl_sites.specs.declared.adding.Adds.{Adds}
use Rattle.gl_sites.specs.declared.adding.Adds.TheVariants.{Function, Instruction, Neither}

-- what an addition is
abbrev pub kind_of : Addition → Adds
kind_of additions.Nothing = Neither
kind_of (additions.Class plain volatile) = Neither
kind_of (additions.Function args locals) = Function
kind_of (additions.Instruction i) = Instruction
kind_of (additions.Catch c) = Neither
kind_of (additions.Inputs values) = Neither

-- what a line of this form adds
abbrev pub adds_of : Form → Adds
adds_of forms.Blank = Neither
adds_of forms.Class = Neither
adds_of forms.Function = Function
adds_of forms.Label = Neither
adds_of forms.Catch = Neither
adds_of forms.Inputs = Neither
adds_of (forms.Instruction i) = Instruction

-- what a line adds that begins with this word, which is not a label, where the line tells a form
abbrev pub word_adds : List ℕ → Bool → Adds
word_adds word alone =
    if bytes_eq word (codes "class") then Neither
    else if bytes_eq word (codes "func") then Function
    else if bytes_eq word (codes "catch") then Neither
    else if bytes_eq word (codes "input") && not alone then Neither
    else Instruction

-- what a line of these words adds, where they tell a form
abbrev pub words_add : List (List ℕ) → Adds
words_add [] = Neither
words_add (word ∷ []) = if is_some (label_of word) then Neither else word_adds word true
words_add (word ∷ other ∷ more) = word_adds word false

-- ## How far the lines have come

-- how many functions there are behind a line that adds this, where there were so many
abbrev pub functions_after : Adds → ℕ → ℕ
functions_after Function n = n + 1
functions_after Instruction n = n
functions_after Neither n = n

-- how many instructions the last function has then
abbrev pub instructions_after : Adds → ℕ → ℕ
instructions_after Function n = 0
instructions_after Instruction n = n + 1
instructions_after Neither n = n

abbrev pub word_or : Option (List ℕ) → List ℕ → List ℕ
word_or (Some word) other = word
word_or None other = other

-- the last function's name, where the line has this second word
abbrev pub name_after : Adds → Option (List ℕ) → List ℕ → List ℕ
name_after Function word name = word_or word name
name_after Instruction word name = name
name_after Neither word name = name

-- whether the line adds instruction i of function f
abbrev pub finds : Adds → ℕ → ℕ → ℕ → ℕ → Bool
finds Function functions instructions f i = false
finds Instruction functions instructions f i = (functions == f + 1) && (instructions == i)
finds Neither functions instructions f i = false
