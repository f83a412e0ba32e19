-- Which line of a program's text adds an instruction, and how it is quoted.
use Rattle.std.specs.Prelude.{◌≡◌, ℕ, ◌+◌, List, fold, length, take, slice_get, Some, Ok}
use Rattle.std.specs.List.{before_first}
use Rattle.std.specs.Str.{IsTrimAscii}
use Rattle.std.specs.Str.Lines.{lines}
use Rattle.gl_text.specs.Text.{is_hash, words}
use Rattle.gl_bytecode.specs.declared.instr.Instr.{Instr}
use Rattle.gl_bytecode.specs.Programs.{Draft}
use Rattle.gl_asm.specs.declared.additions.Addition.{Addition}
use Rattle.gl_asm.specs.declared.additions.Addition.TheVariants.{Function, Instruction}
use Rattle.gl_asm.specs.Code.{code_of}
use Rattle.gl_asm.specs.Definitions.{definitions}
use Rattle.gl_asm.specs.Forms.{none_yet}
use Rattle.gl_asm.specs.Texts.{added, read_from, start}

-- what the lines of a text add, one addition for each line, where no line has a fault
abbrev pub AreAdded : List ℕ → List Addition → Type 0
AreAdded text additions = read_from (definitions (lines text)) none_yet 1 0 (lines text) ≡ Ok additions

-- the program so far, behind these additions
abbrev pub draft_by : List ℕ → List Addition → Draft
draft_by text additions = fold added (start (definitions (lines text))) additions

-- so many lines of the text make this draft, and the next line is this one and adds this
pub record AddsNext (text : List ℕ) (before : ℕ) (draft : Draft) (line : List ℕ) (addition : Addition) : Type 0 where
  pub additions : List Addition
  pub all : AreAdded text additions
  pub so_far : draft_by text (take before additions) ≡ draft
  pub there : slice_get (lines text) before ≡ Some line
  pub adds : slice_get additions before ≡ Some addition

-- line n, counted from 1, adds instruction i of function f: before it the text has f + 1 functions, the last of i instructions
pub record IsLineOf (text : List ℕ) (f i n : ℕ) : Type 0 where
  pub before : ℕ
  pub draft : Draft
  pub line : List ℕ
  pub instr : Instr
  pub number : n ≡ before + 1
  pub adds : AddsNext text before draft line (Instruction instr)
  pub functions : length draft.functions ≡ f + 1
  pub instructions : length (code_of (slice_get draft.functions f)) ≡ i

-- the name of function f: the second word of the line that adds it, before which there are f functions
pub record IsNameOf (text : List ℕ) (f : ℕ) (name : List ℕ) : Type 0 where
  pub before : ℕ
  pub draft : Draft
  pub line : List ℕ
  pub args : ℕ
  pub locals : ℕ
  pub adds : AddsNext text before draft line (Function args locals)
  pub functions : length draft.functions ≡ f
  pub word : slice_get (words line) 1 ≡ Some name

-- the line of instruction i of function f, what stands in it before a comment without the blanks around that, and the function's name
pub record IsSourceOf (text : List ℕ) (f i number : ℕ) (quote name : List ℕ) : Type 0 where
  pub line : IsLineOf text f i number
  pub quoted : IsTrimAscii (before_first is_hash line.line) quote
  pub named : IsNameOf text f name
