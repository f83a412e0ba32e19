-- What a record keeps to: threads rise, no list is empty, and each id is one that there is.
use Rattle.std.specs.Prelude.{ℕ, ◌<◌, List, length, map}
use Rattle.std.specs.List.{AllByRecursion}
use Rattle.gl_model.specs.declared.limits.TheConstants.{THREADS, VARIABLES}
use Rattle.gl_model.specs.declared.tx.Tx.{Tx}
use Rattle.gl_model.specs.declared.tx.Why.{Why}
use Rattle.gl_model.specs.declared.tx.Why.TheVariants.{Changed, Raised}
use Rattle.gl_model.specs.Elements.{IsActInRange}
use Rattle.gl_model.specs.Entries.{Entry, Sync, Commit, Plain, Abort, Trim, Over}
use Rattle.gl_model.specs.Rising.{Rises}
pub use Rattle.gl_model.specs.Rising.{AreVariables}

-- so are those of its looks, its writes and its numbers
abbrev pub IsTxKept : Tx → Type 0
IsTxKept tx = AreVariables (map (λ l. l.var) tx.looks) × AreVariables (map (λ w. w.var) tx.writes)
    × AreVariables (map (λ n. n.var) tx.numbers)

-- the variable that is named is one that there is
abbrev pub IsWhyKept : Why → Type 0
IsWhyKept (Changed var read found) = var < VARIABLES
IsWhyKept (Raised var) = var < VARIABLES

-- each id in the entry is one that there is
abbrev pub IsEntryKept : Entry → Type 0
IsEntryKept (Sync at act value) = IsActInRange act
IsEntryKept (Commit at tx) = IsTxKept tx
IsEntryKept (Plain var nth cached write value raised) = var < VARIABLES
IsEntryKept (Abort tx why) = IsTxKept tx × IsWhyKept why
IsEntryKept (Trim low) = Unit {0}
IsEntryKept (Over ending) = Unit {0}

-- the ids that are no parts of a transaction's lists are ones that there are; those lists keep to theirs by their types
abbrev pub IsEntryInRange : Entry → Type 0
IsEntryInRange (Sync at act value) = IsActInRange act
IsEntryInRange (Commit at tx) = Unit {0}
IsEntryInRange (Plain var nth cached write value raised) = var < VARIABLES
IsEntryInRange (Abort tx why) = IsWhyKept why
IsEntryInRange (Trim low) = Unit {0}
IsEntryInRange (Over ending) = Unit {0}

-- a list of a thread that there is: it has an entry, and its entries keep to the above
abbrev pub IsListKept : ℕ × List Entry → Type 0
IsListKept l = (l.0 < THREADS) × (0 < length l.1) × AllByRecursion IsEntryKept l.1

-- a record: the threads rise, and each list keeps to the above
abbrev pub IsRecord : List (ℕ × List Entry) → Type 0
IsRecord ls = Rises (map (λ l. l.0) ls) × AllByRecursion IsListKept ls
