-- The performed writes of a record, and the word below a number among them.
use Rattle.std.specs.Prelude.{ℕ, ℤ, ◌<◌, ◌==◌, true, false, List, [], ◌∷◌, ◌++◌, Option, Some, None, MatchOption, ◌↔◌, Contains}
use Rattle.std.specs.List.{find}
use Rattle.gl_model.specs.declared.tx.Number.{Number}
use Rattle.gl_model.specs.declared.tx.Pair.{Pair}
use Rattle.gl_model.specs.Entries.{Entry, Sync, Commit, Plain, Abort, Trim, Over}
use Rattle.gl_model.specs.Flat.{IsWordBelow, IsWritten, ReadsRight}
use Rattle.gl_model.specs.Form.{At}
use Rattle.gl_model.specs.Records.{Lists}
use Rattle.gl_flat.specs.declared.writes.Written.{Written}

-- a write with the number that its transaction drew on its variable
abbrev pub with_number : Pair → Option Number → List Written
with_number w None = []
with_number w (Some n) = record { var = w.var; nth = n.nth; value = w.value } ∷ []

-- the writes of a transaction, with their numbers
abbrev pub written_in : List Number → List Pair → List Written
written_in numbers [] = []
written_in numbers (w ∷ ws) = with_number w (find (λ n. n.var == w.var) numbers) ++ written_in numbers ws

-- the performed writes of an entry
abbrev pub written_by : Entry → List Written
written_by (Plain var nth cached true value false) = record { var = var; nth = nth; value = value } ∷ []
written_by (Plain var nth cached true value true) = []
written_by (Plain var nth cached false value raised) = []
written_by (Commit at tx) = written_in tx.numbers tx.writes
written_by (Sync at act value) = []
written_by (Abort tx why) = []
written_by (Trim low) = []
written_by (Over ending) = []

-- these are the performed writes of the record
abbrev pub AreWrites : Lists → List Written → Type 0
AreWrites R ws = (w : Written) → Contains ws w ↔ IsWritten R w.var w.nth w.value

-- what was found is the word below the number that the end of the attempt drew on the variable
abbrev pub FoundIsRight : Lists → List Number → ℕ → ℤ → Type 0
FoundIsRight R numbers var found = (number : ℕ) → Contains numbers (record { var = var; nth = number }) → IsWordBelow R var number found

-- the answer is the first place of the list whose looks are not right, or there is none
abbrev pub IsFirstLook : Lists → List Entry → Option ℕ → Type 0
IsFirstLook R es answer =
    MatchOption answer ((k : ℕ) (e : Entry) → At es k e → ReadsRight R e)
    (λ i. ((e : Entry) × At es i e × (ReadsRight R e → ⊥)) × ((k : ℕ) (e : Entry) → k < i → At es k e → ReadsRight R e))
