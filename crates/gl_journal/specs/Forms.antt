-- The forms of lines, by the words that tell each: the first word of a line, and after `abort` and `over` its second.
use Rattle.std.specs.Prelude.{ℕ, List, [], ◌∷◌, Result, Ok, Err, bytes_eq, codes, if◌then◌else◌}
use Rattle.gl_text.specs.declared.kinds.TheConstants.{UNKNOWN_WORD, WORD_COUNT}
use Rattle.gl_journal.specs.declared.forms.EntryForm.TheVariants.{Sync, Commit, Plain, Changed, Raised, Trim, Halt, Spent, Uncaught}
use Rattle.gl_journal.specs.declared.forms.Form.{Form}
use Rattle.gl_journal.specs.declared.forms.Form.TheVariants.{Header, Thread, Entry, Done}
use Rattle.gl_journal.specs.Fields.{Word, ◌>>=◌, first_of, rest_of}

abbrev pub abort_form : Word → Result Form ℕ
abort_form word =
    if bytes_eq word (codes "changed") then Ok (Entry Changed)
    else if bytes_eq word (codes "raised") then Ok (Entry Raised)
    else Err UNKNOWN_WORD

abbrev pub over_form : Word → Result Form ℕ
over_form word =
    if bytes_eq word (codes "halt") then Ok (Entry Halt)
    else if bytes_eq word (codes "spent") then Ok (Entry Spent)
    else if bytes_eq word (codes "uncaught") then Ok (Entry Uncaught)
    else Err UNKNOWN_WORD

-- the form of a line with this first word and these others
abbrev pub form_by : Word → List Word → Result Form ℕ
form_by first others =
    if bytes_eq first (codes "record") then Ok Header
    else if bytes_eq first (codes "thread") then Ok Thread
    else if bytes_eq first (codes "sync") then Ok (Entry Sync)
    else if bytes_eq first (codes "commit") then Ok (Entry Commit)
    else if bytes_eq first (codes "plain") then Ok (Entry Plain)
    else if bytes_eq first (codes "abort") then first_of WORD_COUNT others >>= abort_form
    else if bytes_eq first (codes "trim") then Ok (Entry Trim)
    else if bytes_eq first (codes "over") then first_of WORD_COUNT others >>= over_form
    else if bytes_eq first (codes "done") then Ok Done
    else Err UNKNOWN_WORD

abbrev pub form_of : List Word → Result Form ℕ
form_of [] = Err WORD_COUNT
form_of (first ∷ others) = form_by first others

-- the words behind those that tell the form
abbrev pub operands_of : Form → List Word → List Word
operands_of Header ws = rest_of ws
operands_of Thread ws = rest_of ws
operands_of Done ws = rest_of ws
operands_of (Entry Sync) ws = rest_of ws
operands_of (Entry Commit) ws = rest_of ws
operands_of (Entry Plain) ws = rest_of ws
operands_of (Entry Changed) ws = rest_of (rest_of ws)
operands_of (Entry Raised) ws = rest_of (rest_of ws)
operands_of (Entry Trim) ws = rest_of ws
operands_of (Entry Halt) ws = rest_of (rest_of ws)
operands_of (Entry Spent) ws = rest_of (rest_of ws)
operands_of (Entry Uncaught) ws = rest_of (rest_of ws)

-- how many words a line of the form has
abbrev pub count_of : Form → ℕ
count_of Header = 3
count_of Thread = 2
count_of Done = 1
count_of (Entry Sync) = 5
count_of (Entry Commit) = 8
count_of (Entry Plain) = 7
count_of (Entry Changed) = 11
count_of (Entry Raised) = 9
count_of (Entry Trim) = 2
count_of (Entry Halt) = 2
count_of (Entry Spent) = 2
count_of (Entry Uncaught) = 3
