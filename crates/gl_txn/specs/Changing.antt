-- Words that were changed since the attempt looked at them.
use Rattle.std.specs.Prelude.{◌≡◌, ◌≢◌, ℕ, ◌==◌, ◌<◌, List, slice_get, Option, Some, None}
use Rattle.std.specs.List.{find}
use Rattle.gl_model.specs.declared.tx.Look.{Look}
use Rattle.gl_txn.specs.declared.changing.Change.{Change}
use Rattle.gl_txn.specs.declared.taken.TakenRow.{TakenRow}

-- the look of a variable, if there is one
abbrev pub look_in : List Look → ℕ → Option Look
look_in looks x = find (λ l. l.var == x) looks

-- the row has the word that was read, if it was
abbrev pub IsUnchanged : List Look → TakenRow → Type 0
IsUnchanged looks r = (l : Look) → look_in looks r.var ≡ Some l → r.row.value ≡ l.value

-- it has another word, and this is the change
pub record IsChange (looks : List Look) (r : TakenRow) (c : Change) : Type 0 where
  pub look : Look
  pub looked : look_in looks r.var ≡ Some look
  pub var : c.var ≡ r.var
  pub read : c.read ≡ look.value
  pub found : c.found ≡ r.row.value
  pub other : c.read ≢ c.found

abbrev pub IsChangeOf : List Look → TakenRow → Option Change → Type 0
IsChangeOf looks r None = IsUnchanged looks r
IsChangeOf looks r (Some c) = IsChange looks r c

-- each row, and each at a place before n
abbrev pub AreUnchangedIn : List Look → List TakenRow → Type 0
AreUnchangedIn looks rows = (k : ℕ) (r : TakenRow) → slice_get rows k ≡ Some r → IsUnchanged looks r

abbrev pub AreUnchangedBefore : ℕ → List Look → List TakenRow → Type 0
AreUnchangedBefore n looks rows = (k : ℕ) (r : TakenRow) → k < n → slice_get rows k ≡ Some r → IsUnchanged looks r

-- the change is that of the row at some place, and those before it are unchanged
pub record IsFirstChange (looks : List Look) (rows : List TakenRow) (c : Change) : Type 0 where
  pub place : ℕ
  pub row : TakenRow
  pub there : slice_get rows place ≡ Some row
  pub is : IsChange looks row c
  pub before : AreUnchangedBefore place looks rows
