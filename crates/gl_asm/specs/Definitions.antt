-- The names that the lines of a text define.
use Rattle.std.specs.Prelude.{ℕ, ◌+◌, List, [], ◌∷◌, ◌++◌, Bool, true, false, ◌==◌, ◌&&◌, Option, Some, None, bytes_eq, if◌then◌else◌, slice_get, find, option_to_list}
use Rattle.std.specs.Option.{option_and_then}
use Rattle.gl_text.specs.Text.{words}
use Rattle.gl_asm.specs.declared.definitions.Definition.{Definition}
use Rattle.gl_asm.specs.declared.definitions.Scope.{Scope}
use Rattle.gl_asm.specs.declared.definitions.Scope.TheVariants.{Classes, Functions, Labels}
use Rattle.gl_asm.specs.declared.forms.Counts.{Counts}
use Rattle.gl_asm.specs.declared.forms.Form.{Form}
use Rattle.gl_asm.specs.declared.forms.Form.TheVariants.{Blank, Class, Function, Label, Catch, Inputs, Instruction}
use Rattle.gl_asm.specs.Forms.{counted, form_of, none_yet}
use Rattle.gl_asm.specs.Names.{is_name, label_of}

abbrev pub same_scope : Scope → Scope → Bool
same_scope Classes Classes = true
same_scope Functions Functions = true
same_scope (Labels f) (Labels g) = f == g
same_scope _ _ = false

-- the word in a defined name's place
abbrev pub defined_word : Option Form → List (List ℕ) → Option (List ℕ)
defined_word (Some Class) ws = slice_get ws 1
defined_word (Some Function) ws = slice_get ws 1
defined_word (Some Label) ws = option_and_then label_of (slice_get ws 0)
defined_word (Some Blank) ws = None
defined_word (Some Catch) ws = None
defined_word (Some Inputs) ws = None
defined_word (Some (Instruction i)) ws = None
defined_word None ws = None

-- the scope of the name that a line of this form defines: labels belong to the last function
abbrev pub scope_of : Counts → Option Form → Scope
scope_of c (Some Class) = Classes
scope_of c (Some Function) = Functions
scope_of c (Some Label) = Labels c.functions
scope_of c (Some Blank) = Labels c.functions
scope_of c (Some Catch) = Labels c.functions
scope_of c (Some Inputs) = Labels c.functions
scope_of c (Some (Instruction i)) = Labels c.functions
scope_of c None = Labels c.functions

-- what the name stands for: a class's or a function's number, or the place of a label
abbrev pub number_of : Counts → Option Form → ℕ
number_of c (Some Class) = c.classes
number_of c (Some Function) = c.functions
number_of c (Some Label) = c.places
number_of c (Some Blank) = c.places
number_of c (Some Catch) = c.places
number_of c (Some Inputs) = c.places
number_of c (Some (Instruction i)) = c.places
number_of c None = c.places

abbrev pub named : Scope → ℕ → ℕ → Option (List ℕ) → Option Definition
named scope line number None = None
named scope line number (Some name) =
    if is_name name then Some (record { scope = scope; name = name; line = line; number = number }) else None

-- what a line defines, whatever else is wrong with it
abbrev pub definition_of : Counts → ℕ → Option Form → List (List ℕ) → Option Definition
definition_of c line form ws = named (scope_of c form) line (number_of c form) (defined_word form ws)

-- what the lines define that are numbered from this line on
abbrev pub definitions_from : Counts → ℕ → List (List ℕ) → List Definition
definitions_from c line [] = []
definitions_from c line (text ∷ rest) =
    option_to_list (definition_of c line (form_of (words text)) (words text))
    ++ definitions_from (counted c (form_of (words text))) (line + 1) rest

-- what all lines define
abbrev pub definitions : List (List ℕ) → List Definition
definitions ls = definitions_from none_yet 1 ls

-- ## Looking names up

abbrev pub defines : Scope → List ℕ → Definition → Bool
defines scope name d = same_scope d.scope scope && bytes_eq d.name name

-- the first definition of a name
abbrev pub first_definition : List Definition → Scope → List ℕ → Option Definition
first_definition table scope name = find (defines scope name) table
