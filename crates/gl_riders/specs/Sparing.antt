-- What a thread may repeat, by its list; and lists in which it repeats just that.
use Rattle.std.specs.Prelude.{◌≡◌, ℕ, ℤ, ◌<◌, Bool, true, false, List, ◌↔◌, Option, Some, None}
use Rattle.gl_model.specs.Entries.{Entry, Plain}
use Rattle.gl_model.specs.Form.{At, EndsRights, GivesRight}
use Rattle.gl_table.specs.RightOf.{right_of}

-- a plain entry is cached exactly where an earlier one of its block, with no event and no abort between, gives the right to it: what
-- sparing says of one list
abbrev pub IsSpared : List Entry → Type 0
IsSpared es =
    (i x k : ℕ) (cached write raised : Bool) (value : ℤ) → At es i (Plain x k cached write value raised) →
    (cached ≡ true) ↔
    ((j : ℕ) × (j < i) × ((e : Entry) × At es j e × ((m : ℕ) × ((w : Bool) × GivesRight e x m w × (write ≡ true → w ≡ true)))) ×
    ((l : ℕ) (f : Entry) → At es l f → j < l → l < i → EndsRights f → ⊥))

-- since the last event or abort of the list a numbered performed entry on x reads, or writes
pub record Grants (es : List Entry) (x : ℕ) (write : Bool) : Type 0 where
  pub index : ℕ
  pub entry : Entry
  pub there : At es index entry
  pub nth : ℕ
  pub gives : GivesRight entry x nth write
  pub no_end : (l : ℕ) (f : Entry) → At es l f → index < l → EndsRights f → ⊥

-- the list gives the right on x, to write where that is asked
pub record HasRightTo (es : List Entry) (x : ℕ) (write : Bool) : Type 0 where
  pub nth : ℕ
  pub by_write : Bool
  pub right : right_of es x ≡ Some (nth, by_write)
  pub enough : write ≡ true → by_write ≡ true

-- the list is sparing, and its rights are what it grants
pub record Spares (es : List Entry) : Type 0 where
  pub granted : (x n : ℕ) (w : Bool) → right_of es x ≡ Some (n, w) → Grants es x w
  pub complete : (x : ℕ) (w : Bool) → Grants es x w → HasRightTo es x w
  pub spared : IsSpared es

-- does the right allow this access?
abbrev pub allows : Option (ℕ × Bool) → Bool → Bool
allows None write = false
allows (Some r) true = r.1
allows (Some r) false = true
