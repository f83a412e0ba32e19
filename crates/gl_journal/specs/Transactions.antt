-- The transaction of a line: its looks behind an r, its writes behind a w, and its numbers behind an n.
use Rattle.std.specs.Prelude.{ℕ, List, map, length, Bool, Result, Ok, Err, ◌&&◌, nat_le, codes, if◌then◌else◌}
use Rattle.gl_model.specs.Rising.{with_all}
use Rattle.gl_model.specs.declared.limits.TheConstants.{TX_VARIABLES}
use Rattle.gl_model.specs.declared.tx.Tx.{Tx}
use Rattle.gl_text.specs.declared.kinds.TheConstants.{BAD_NUMBER, BAD_SET, WORD_COUNT}
use Rattle.gl_journal.specs.declared.parts.Part.{Part}
use Rattle.gl_journal.specs.declared.parts.PartForm.TheVariants as forms
use Rattle.gl_journal.specs.Fields.{Word, ◌>>=◌, first_of, rest_of, told}
use Rattle.gl_journal.specs.Parts.{list_in, is_set, look_of, pair_of, number_of}

-- the three lists
unfoldable pub lists_of : List Word → Result (Word × Word × Word) ℕ
lists_of ws = do
  r ← first_of WORD_COUNT ws
  r_stands ← told BAD_NUMBER (codes "r") r
  looks ← first_of WORD_COUNT (rest_of ws)
  w ← first_of WORD_COUNT (rest_of (rest_of ws))
  w_stands ← told BAD_NUMBER (codes "w") w
  writes ← first_of WORD_COUNT (rest_of (rest_of (rest_of ws)))
  n ← first_of WORD_COUNT (rest_of (rest_of (rest_of (rest_of ws))))
  n_stands ← told BAD_NUMBER (codes "n") n
  numbers ← first_of WORD_COUNT (rest_of (rest_of (rest_of (rest_of (rest_of ws)))))
  Ok (looks, writes, numbers)

-- the variables of a list
abbrev pub vars_of : List Part → List ℕ
vars_of parts = map (λ p. p.var) parts

-- two lists together name at most as many variables as a transaction may have
abbrev pub names_few : List Part → List Part → Bool
names_few looks writes = nat_le (length (with_all (vars_of writes) (vars_of looks))) TX_VARIABLES

-- the transaction of these parts, where each list is a set, and the looks and the writes together name few
abbrev pub tx_of : List Part → List Part → List Part → Result Tx ℕ
tx_of looks writes numbers =
    if is_set looks && is_set writes && is_set numbers && names_few looks writes
    then Ok (record { looks = map look_of looks; writes = map pair_of writes; numbers = map number_of numbers })
    else Err BAD_SET

unfoldable pub tx_in : List Word → Result Tx ℕ
tx_in ws = do
  lists ← lists_of ws
  looks ← list_in forms.Look lists.0
  writes ← list_in forms.Pair lists.1
  numbers ← list_in forms.Number lists.2
  tx_of looks writes numbers
