-- The entry that a line says, by the words behind those that tell its form.
use Rattle.std.specs.Prelude.{ℕ, ◌-◌, List, Result, Ok, codes}
use Rattle.gl_model.specs.Entries.{Entry, Sync, Commit, Plain, Abort, Trim, Over}
use Rattle.gl_model.specs.declared.limits.TheConstants.{VARIABLES}
use Rattle.gl_model.specs.declared.record.Ending.TheVariants.{Halt, Uncaught, Spent}
use Rattle.gl_model.specs.declared.tx.Why.TheVariants.{Changed, Raised}
use Rattle.gl_text.specs.declared.kinds.TheConstants.{WORD_COUNT}
use Rattle.gl_journal.specs.declared.forms.EntryForm.{EntryForm}
use Rattle.gl_journal.specs.declared.forms.EntryForm.TheVariants as forms
use Rattle.gl_journal.specs.declared.limits.TheConstants.{MOST_STAMP}
use Rattle.gl_journal.specs.Fields.{Word, ◌>>=◌, first_of, rest_of, natural_in, value_in, choice_in}
use Rattle.gl_journal.specs.SyncKinds.{kind_in, most_of, act_of}
use Rattle.gl_journal.specs.Transactions.{tx_in}

-- a synchronization: its position, its kind, the number of the act, and its value
unfoldable pub sync_in : List Word → Result Entry ℕ
sync_in ws = do
  at_word ← first_of WORD_COUNT ws
  at ← natural_in MOST_STAMP at_word
  kind_word ← first_of WORD_COUNT (rest_of ws)
  kind ← kind_in kind_word
  number_word ← first_of WORD_COUNT (rest_of (rest_of ws))
  number ← natural_in (most_of kind) number_word
  value_word ← first_of WORD_COUNT (rest_of (rest_of (rest_of ws)))
  value ← value_in value_word
  Ok (Sync at (act_of kind number) value)

-- a commit: its position and its transaction
unfoldable pub commit_in : List Word → Result Entry ℕ
commit_in ws = do
  at_word ← first_of WORD_COUNT ws
  at ← natural_in MOST_STAMP at_word
  tx ← tx_in (rest_of ws)
  Ok (Commit at tx)

-- a plain access: its variable, its number, whether it writes, its value, whether it is a repeat, and whether it was refused
unfoldable pub plain_in : List Word → Result Entry ℕ
plain_in ws = do
  var_word ← first_of WORD_COUNT ws
  var ← natural_in (VARIABLES - 1) var_word
  nth_word ← first_of WORD_COUNT (rest_of ws)
  nth ← natural_in MOST_STAMP nth_word
  write_word ← first_of WORD_COUNT (rest_of (rest_of ws))
  write ← choice_in (codes "rd") (codes "wr") write_word
  value_word ← first_of WORD_COUNT (rest_of (rest_of (rest_of ws)))
  value ← value_in value_word
  cached_word ← first_of WORD_COUNT (rest_of (rest_of (rest_of (rest_of ws))))
  cached ← choice_in (codes "own") (codes "cached") cached_word
  raised_word ← first_of WORD_COUNT (rest_of (rest_of (rest_of (rest_of (rest_of ws)))))
  raised ← choice_in (codes "ok") (codes "race") raised_word
  Ok (Plain var nth cached write value raised)

-- an attempt that found a variable changed: the variable, the value that was read and the one that was found, and its transaction
unfoldable pub changed_in : List Word → Result Entry ℕ
changed_in ws = do
  var_word ← first_of WORD_COUNT ws
  var ← natural_in (VARIABLES - 1) var_word
  read_word ← first_of WORD_COUNT (rest_of ws)
  read ← value_in read_word
  found_word ← first_of WORD_COUNT (rest_of (rest_of ws))
  found ← value_in found_word
  tx ← tx_in (rest_of (rest_of (rest_of ws)))
  Ok (Abort tx (Changed var read found))

-- an attempt that was refused for a race: the variable, and its transaction
unfoldable pub raised_in : List Word → Result Entry ℕ
raised_in ws = do
  var_word ← first_of WORD_COUNT ws
  var ← natural_in (VARIABLES - 1) var_word
  tx ← tx_in (rest_of ws)
  Ok (Abort tx (Raised var))

-- how far the list was trimmed
unfoldable pub trim_in : List Word → Result Entry ℕ
trim_in ws = do
  word ← first_of WORD_COUNT ws
  low ← natural_in MOST_STAMP word
  Ok (Trim low)

-- the end by an exception that nothing catches: its code
unfoldable pub uncaught_in : List Word → Result Entry ℕ
uncaught_in ws = do
  word ← first_of WORD_COUNT ws
  code ← natural_in 255 word
  Ok (Over (Uncaught code))

abbrev pub entry_in : EntryForm → List Word → Result Entry ℕ
entry_in forms.Sync ws = sync_in ws
entry_in forms.Commit ws = commit_in ws
entry_in forms.Plain ws = plain_in ws
entry_in forms.Changed ws = changed_in ws
entry_in forms.Raised ws = raised_in ws
entry_in forms.Trim ws = trim_in ws
entry_in forms.Halt ws = Ok (Over Halt)
entry_in forms.Spent ws = Ok (Over Spent)
entry_in forms.Uncaught ws = uncaught_in ws
