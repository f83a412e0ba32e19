-- The meaning of a record text: the number of steps and the record, or its first fault.
use Rattle.std.specs.Prelude.{◌≡◌, ℕ, ◌+◌, ◌-◌, ◌<◌, List, [], ◌∷◌, length, take, slice_index_or, Bool, true, false, ◌==◌, nat_lt, is_some, Option, Some, None, Result, Ok, Err, ◌⊎◌, codes, fold, if◌then◌else◌}
use Rattle.std.specs.Str.Lines.{lines}
use Rattle.gl_model.specs.Entries.{Entry}
use Rattle.gl_model.specs.Lists.{with_last}
use Rattle.gl_model.specs.declared.limits.TheConstants.{THREADS}
use Rattle.gl_text.specs.Text.{is_bad, words}
use Rattle.gl_text.specs.declared.fault.TextError.{TextError}
use Rattle.gl_text.specs.declared.fault.TextError.TheVariants.{Fault, Memory}
use Rattle.gl_text.specs.declared.kinds.TheConstants.{BAD_BYTE, BAD_HEADER, BAD_ORDER, NO_DONE, WORD_COUNT}
use Rattle.gl_journal.specs.declared.forms.Form.{Form}
use Rattle.gl_journal.specs.declared.forms.Form.TheVariants as forms
use Rattle.gl_journal.specs.declared.limits.TheConstants.{LEAST_STEPS, MOST_STEPS}
use Rattle.gl_journal.specs.declared.reader.Standing.{Standing}
use Rattle.gl_journal.specs.declared.refusal.Refusal.{Refusal}
use Rattle.gl_journal.specs.declared.refusal.Refusal.TheVariants.{Kind, Memory as NoMemory}
use Rattle.gl_journal.specs.Fields.{Word, ◌>>=◌, first_of, rest_of, none_of, natural_in, told}
use Rattle.gl_journal.specs.Forms.{form_of, operands_of, count_of}
use Rattle.gl_journal.specs.EntryLines.{entry_in}

-- ## The header

abbrev pub some_steps : ℕ → Result ℕ ℕ
some_steps n = if nat_lt n LEAST_STEPS then Err BAD_HEADER else Ok n

abbrev pub steps_or_header : Result ℕ ℕ → Result ℕ ℕ
steps_or_header (Ok n) = some_steps n
steps_or_header (Err kind) = Err BAD_HEADER

abbrev pub steps_in : Word → Result ℕ ℕ
steps_in word = steps_or_header (natural_in MOST_STEPS word)

-- the number of steps that a header gives
unfoldable pub header_in : List Word → Result ℕ ℕ
header_in ws = do
  first ← first_of BAD_HEADER ws
  record_stands ← told BAD_HEADER (codes "record") first
  version ← first_of BAD_HEADER (rest_of ws)
  version_stands ← told BAD_HEADER (codes "1") version
  word ← first_of BAD_HEADER (rest_of (rest_of ws))
  steps ← steps_in word
  end ← none_of BAD_HEADER (rest_of (rest_of (rest_of ws)))
  Ok steps

-- ## One line, behind what the lines before it have said

-- nothing was said yet
abbrev pub nothing : Standing
nothing = record { steps = None; thread = None; lists = []; done = false }

-- a thread is above the last one
abbrev pub is_next : Option ℕ → Result ℕ ℕ → Bool
is_next None number = true
is_next (Some t) (Ok u) = nat_lt t u
is_next (Some t) (Err kind) = true

abbrev pub thread_in : List Word → Result ℕ ℕ
thread_in ws = first_of WORD_COUNT ws >>= natural_in (THREADS - 1)

-- where a line of this form may stand: a header at the front alone; a thread behind those below it, where its number can be read; an
-- entry behind a thread
abbrev pub may_stand : Standing → Form → List Word → Bool
may_stand s forms.Header ws = false
may_stand s forms.Thread ws = is_next s.thread (thread_in ws)
may_stand s (forms.Entry form) ws = is_some s.thread
may_stand s forms.Done ws = true

-- an entry goes behind those of the last thread
abbrev pub with_entry : Standing → Option ℕ → Entry → Standing
with_entry s None e = s
with_entry s (Some t) e = record s { lists = with_last t e s.lists }

-- what was said behind a line of this form
abbrev pub form_read : Standing → Form → List Word → Result Standing ℕ
form_read s forms.Header ws = Err BAD_ORDER
form_read s forms.Thread ws = thread_in ws >>= (λ t. Ok (record s { thread = Some t }))
form_read s (forms.Entry form) ws = entry_in form ws >>= (λ e. Ok (with_entry s s.thread e))
form_read s forms.Done ws = Ok (record s { done = true })

-- a line of this form, with so many words in all
abbrev pub placed_read : Standing → Form → ℕ → List Word → Result Standing ℕ
placed_read s form count ws =
    if may_stand s form ws then (if count == count_of form then form_read s form ws else Err WORD_COUNT) else Err BAD_ORDER

-- a line behind the header
abbrev pub body_read : Standing → List Word → Result Standing ℕ
body_read s ws = if s.done then Err BAD_ORDER else form_of ws >>= (λ form. placed_read s form (length ws) (operands_of form ws))

-- the first line with words, or one behind it
abbrev pub some_read : Standing → Option ℕ → List Word → Result Standing ℕ
some_read s None ws = header_in ws >>= (λ n. Ok (record s { steps = Some n }))
some_read s (Some n) ws = body_read s ws

abbrev pub words_read : Standing → List Word → Result Standing ℕ
words_read s [] = Ok s
words_read s (first ∷ others) = some_read s s.steps (first ∷ others)

-- what was said behind a line, or the kind of its fault
unfoldable pub line_read : Standing → List ℕ → Result Standing ℕ
line_read s line = if is_bad line then Err BAD_BYTE else words_read s (words line)

-- ## The whole text

abbrev pub or_same : Standing → Result Standing ℕ → Standing
or_same s (Ok t) = t
or_same s (Err kind) = s

-- what some lines have said; one that has a fault says nothing
abbrev pub said : List (List ℕ) → Standing
said ls = fold (λ s line. or_same s (line_read s line)) nothing ls

abbrev pub fault_of : Result Standing ℕ → Option ℕ
fault_of (Ok s) = None
fault_of (Err kind) = Some kind

-- the fault of the line at place i, behind the lines before it
abbrev pub fault_at : List (List ℕ) → ℕ → Option ℕ
fault_at ls i = fault_of (line_read (said (take i ls)) (slice_index_or ls i []))

-- no line has a fault
abbrev pub AreClean : List (List ℕ) → Type 0
AreClean ls = (i : ℕ) → i < length ls → fault_at ls i ≡ None

abbrev pub with_steps : Standing → Option ℕ → Option (ℕ × List (ℕ × List Entry))
with_steps s None = None
with_steps s (Some n) = if s.done then Some (n, s.lists) else None

-- what was said in all: the number of steps and the record, where there is a header and a `done`
abbrev pub outcome : Standing → Option (ℕ × List (ℕ × List Entry))
outcome s = with_steps s s.steps

-- the text has no fault, and says this
pub record IsRecordText (text : List ℕ) (steps : ℕ) (R : List (ℕ × List Entry)) : Type 0 where
  pub clean : AreClean (lines text)
  pub says : outcome (said (lines text)) ≡ Some (steps, R)

-- the line at place i is the first that has a fault
pub record IsFirst (ls : List (List ℕ)) (i kind : ℕ) : Type 0 where
  pub there : i < length ls
  pub fault : fault_at ls i ≡ Some kind
  pub before : (j : ℕ) → j < i → fault_at ls j ≡ None

-- no line has a fault, but the text has no end
pub record IsUnended (ls : List (List ℕ)) (line kind : ℕ) : Type 0 where
  pub clean : AreClean ls
  pub open_end : outcome (said ls) ≡ None
  pub line_is : line ≡ 0
  pub kind_is : kind ≡ NO_DONE

-- the first fault of the text, whose first line has this number; where no line has one and there is no `done`, it is in line 0
abbrev pub IsFirstFault : List ℕ → ℕ → ℕ → ℕ → Type 0
IsFirstFault text first line kind =
    ((i : ℕ) × (line ≡ first + i) × IsFirst (lines text) i kind) ⊎ IsUnended (lines text) line kind

-- a refusal of the line with this number
abbrev pub refused_at : ℕ → Refusal → TextError
refused_at line (Kind kind) = Fault (record { line = line; kind = kind })
refused_at line (NoMemory e) = Memory e

-- an error that is not want of memory is the first fault of a line
abbrev pub FaultsFirst : List (List ℕ) → ℕ → TextError → Type 0
FaultsFirst ls first (Fault f) = (i : ℕ) × (f.line ≡ first + i) × IsFirst ls i f.kind
FaultsFirst ls first (Memory e) = Unit {0}

-- an error that is not want of memory is the first fault
abbrev pub TellsFirst : List ℕ → ℕ → TextError → Type 0
TellsFirst text first (Fault f) = IsFirstFault text first f.line f.kind
TellsFirst text first (Memory e) = Unit {0}
