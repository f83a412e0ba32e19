-- The text of a record: its rows, each of them its words.
use Rattle.std.specs.Prelude.{ℕ, List, [], ◌∷◌, ◌++◌, map, codes, if◌then◌else◌}
use Rattle.std.specs.Fmt.{decimal, signed_decimal}
use Rattle.std.specs.List.{flat_map}
use Rattle.gl_model.specs.Entries.{Entry, Sync, Commit, Plain, Abort, Trim, Over}
use Rattle.gl_model.specs.declared.record.Ending.{Ending}
use Rattle.gl_model.specs.declared.record.Ending.TheVariants.{Halt, Uncaught, Spent}
use Rattle.gl_model.specs.declared.tx.Look.{Look}
use Rattle.gl_model.specs.declared.tx.Pair.{Pair}
use Rattle.gl_model.specs.declared.tx.Number.{Number}
use Rattle.gl_model.specs.declared.tx.Tx.{Tx}
use Rattle.gl_model.specs.declared.tx.Why.{Why}
use Rattle.gl_model.specs.declared.tx.Why.TheVariants.{Changed, Raised}
use Rattle.gl_journal.specs.Fields.{Word}
use Rattle.gl_journal.specs.SyncKinds.{word_of, kind_of, arg_of}

abbrev pub Row : Type 0
Row = List Word

-- ## Lists

-- the parts with commas between, or a minus where there is none
abbrev pub list_word : List Word → Word
list_word [] = codes "-"
list_word (w ∷ ws) = w ++ flat_map (λ v. codes "," ++ v) ws

abbrev pub look_word : Look → Word
look_word l = decimal l.var ++ (codes ":" ++ (signed_decimal l.value ++ (codes ":" ++ decimal l.nth)))

abbrev pub pair_word : Pair → Word
pair_word p = decimal p.var ++ (codes ":" ++ signed_decimal p.value)

abbrev pub number_word : Number → Word
number_word n = decimal n.var ++ (codes ":" ++ decimal n.nth)

-- ## Entries

abbrev pub tx_words : Tx → Row
tx_words tx =
    codes "r" ∷ list_word (map look_word tx.looks) ∷ codes "w" ∷ list_word (map pair_word tx.writes)
    ∷ codes "n" ∷ list_word (map number_word tx.numbers) ∷ []

abbrev pub abort_row : Tx → Why → Row
abort_row tx (Changed var read found) =
    codes "abort" ∷ codes "changed" ∷ decimal var ∷ signed_decimal read ∷ signed_decimal found ∷ tx_words tx
abort_row tx (Raised var) = codes "abort" ∷ codes "raised" ∷ decimal var ∷ tx_words tx

abbrev pub over_row : Ending → Row
over_row Halt = codes "over" ∷ codes "halt" ∷ []
over_row (Uncaught code) = codes "over" ∷ codes "uncaught" ∷ decimal code ∷ []
over_row Spent = codes "over" ∷ codes "spent" ∷ []

abbrev pub entry_row : Entry → Row
entry_row (Sync at act value) = codes "sync" ∷ decimal at ∷ word_of (kind_of act) ∷ decimal (arg_of act) ∷ signed_decimal value ∷ []
entry_row (Commit at tx) = codes "commit" ∷ decimal at ∷ tx_words tx
entry_row (Plain var nth cached write value raised) =
    codes "plain" ∷ decimal var ∷ decimal nth ∷ (if write then codes "wr" else codes "rd") ∷ signed_decimal value
    ∷ (if cached then codes "cached" else codes "own") ∷ (if raised then codes "race" else codes "ok") ∷ []
entry_row (Abort tx why) = abort_row tx why
entry_row (Trim low) = codes "trim" ∷ decimal low ∷ []
entry_row (Over ending) = over_row ending

-- ## Rows before others

abbrev pub entry_rows : List Entry → List Row → List Row
entry_rows [] rest = rest
entry_rows (e ∷ es) rest = entry_row e ∷ entry_rows es rest

abbrev pub thread_row : ℕ → Row
thread_row t = codes "thread" ∷ decimal t ∷ []

abbrev pub list_rows : List (ℕ × List Entry) → List Row → List Row
list_rows [] rest = rest
list_rows (l ∷ ls) rest = thread_row l.0 ∷ entry_rows l.1 (list_rows ls rest)

abbrev pub header_row : ℕ → Row
header_row steps = codes "record" ∷ codes "1" ∷ decimal steps ∷ []

abbrev pub record_rows : ℕ → List (ℕ × List Entry) → List Row
record_rows steps R = header_row steps ∷ list_rows R ((codes "done" ∷ []) ∷ [])

-- ## The text of rows

-- the words of a row with one blank between, and a line feed
abbrev pub row_text : Row → List ℕ
row_text [] = codes "\n"
row_text (w ∷ []) = w ++ codes "\n"
row_text (w ∷ v ∷ ws) = w ++ (codes " " ++ row_text (v ∷ ws))

abbrev pub record_text : ℕ → List (ℕ × List Entry) → List ℕ
record_text steps R = flat_map row_text (record_rows steps R)
