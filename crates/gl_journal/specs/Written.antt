-- What a record has to be for its text to be a record text again.
use Rattle.std.specs.Prelude.{◌≤◌, ◌≤ℤ◌, ℕ, ℤ, List, length}
use Rattle.std.specs.List.{AllByRecursion}
use Rattle.gl_model.specs.Entries.{Entry, Sync, Commit, Plain, Abort, Trim, Over}
use Rattle.gl_model.specs.Kept.{IsRecord}
use Rattle.gl_model.specs.Records.{variables_of}
use Rattle.gl_model.specs.declared.limits.TheConstants.{TX_VARIABLES}
use Rattle.gl_model.specs.declared.record.Ending.{Ending}
use Rattle.gl_model.specs.declared.record.Ending.TheVariants.{Halt, Uncaught, Spent}
use Rattle.gl_model.specs.declared.event.Act.{Act}
use Rattle.gl_model.specs.declared.event.Act.TheVariants.{Begin, End, Acq, Rel, VRead, VWrite, Fork, Join, Alloc, Print, Input, Fail}
use Rattle.gl_model.specs.declared.tx.Tx.{Tx}
use Rattle.gl_model.specs.declared.tx.Why.{Why}
use Rattle.gl_model.specs.declared.tx.Why.TheVariants.{Changed, Raised}
use Rattle.gl_journal.specs.declared.limits.TheConstants.{LEAST_STEPS, LEAST_VALUE, MOST_STAMP, MOST_STEPS, MOST_VALUE}

-- an integer of 64 bits
abbrev pub IsValue : ℤ → Type 0
IsValue z = (LEAST_VALUE ≤ℤ z) × (z ≤ℤ MOST_VALUE)

-- the values of a transaction
abbrev pub IsTxTyped : Tx → Type 0
IsTxTyped tx = AllByRecursion (λ l. IsValue l.value) tx.looks × AllByRecursion (λ w. IsValue w.value) tx.writes

-- and its numbers
abbrev pub IsTxStamped : Tx → Type 0
IsTxStamped tx = AllByRecursion (λ l. l.nth ≤ MOST_STAMP) tx.looks × AllByRecursion (λ n. n.nth ≤ MOST_STAMP) tx.numbers

-- and its looks and writes together name at most as many variables as a transaction may have
abbrev pub TxNamesFew : Tx → Type 0
TxNamesFew tx = length (variables_of tx) ≤ TX_VARIABLES

abbrev pub IsWhyTyped : Why → Type 0
IsWhyTyped (Changed var read found) = IsValue read × IsValue found
IsWhyTyped (Raised var) = Unit {0}

-- a code is a byte
abbrev pub IsActTyped : Act → Type 0
IsActTyped (Fail code) = code ≤ 255
IsActTyped (Begin f) = Unit {0}
IsActTyped End = Unit {0}
IsActTyped (Acq o) = Unit {0}
IsActTyped (Rel o) = Unit {0}
IsActTyped (VRead v) = Unit {0}
IsActTyped (VWrite v) = Unit {0}
IsActTyped (Fork u f) = Unit {0}
IsActTyped (Join u) = Unit {0}
IsActTyped (Alloc c) = Unit {0}
IsActTyped Print = Unit {0}
IsActTyped Input = Unit {0}

abbrev pub IsEndingTyped : Ending → Type 0
IsEndingTyped Halt = Unit {0}
IsEndingTyped (Uncaught code) = code ≤ 255
IsEndingTyped Spent = Unit {0}

-- the values and codes of an entry are of their types, as those of each entry of the program are
abbrev pub IsEntryTyped : Entry → Type 0
IsEntryTyped (Sync at act value) = IsActTyped act × IsValue value
IsEntryTyped (Commit at tx) = IsTxTyped tx
IsEntryTyped (Plain var nth cached write value raised) = IsValue value
IsEntryTyped (Abort tx why) = IsTxTyped tx × IsWhyTyped why
IsEntryTyped (Trim low) = Unit {0}
IsEntryTyped (Over ending) = IsEndingTyped ending

-- the positions, numbers and low marks of an entry are at most the greatest that a line can say
abbrev pub IsEntryStamped : Entry → Type 0
IsEntryStamped (Sync at act value) = at ≤ MOST_STAMP
IsEntryStamped (Commit at tx) = (at ≤ MOST_STAMP) × IsTxStamped tx
IsEntryStamped (Plain var nth cached write value raised) = nth ≤ MOST_STAMP
IsEntryStamped (Abort tx why) = IsTxStamped tx
IsEntryStamped (Trim low) = low ≤ MOST_STAMP
IsEntryStamped (Over ending) = Unit {0}

-- if the entry has a transaction, that names few
abbrev pub NamesFew : Entry → Type 0
NamesFew (Sync at act value) = Unit {0}
NamesFew (Commit at tx) = TxNamesFew tx
NamesFew (Plain var nth cached write value raised) = Unit {0}
NamesFew (Abort tx why) = TxNamesFew tx
NamesFew (Trim low) = Unit {0}
NamesFew (Over ending) = Unit {0}

-- each entry of a record
abbrev pub AllEntries : (Entry → Type 0) → List (ℕ × List Entry) → Type 0
AllEntries P R = AllByRecursion (λ l. AllByRecursion P l.1) R

-- a number of steps that there may be, and a record whose positions, numbers and low marks a line can say: so are those of each run and
-- of each trace, which make far fewer than 2^63 of each
pub record IsStamped (steps : ℕ) (R : List (ℕ × List Entry)) : Type 0 where
  pub few : LEAST_STEPS ≤ steps
  pub most : steps ≤ MOST_STEPS
  pub stamped : AllEntries IsEntryStamped R

-- what a text can say: of each `Record` that is written this holds where it is stamped and its transactions name few, as `write_record`
-- ensures
pub record CanBeSaid (steps : ℕ) (R : List (ℕ × List Entry)) : Type 0 where
  pub within : IsStamped steps R
  pub named : AllEntries NamesFew R
  pub kept : IsRecord R
  pub typed : AllEntries IsEntryTyped R
