-- A pass that stores a word that it owes.
use Rattle.std.specs.Prelude.{◌≡◌, ℕ, ℤ, ◌==◌, not, suc, List, ◌∷◌, ◌++◌, []}
use Rattle.std.specs.List.{filter}
use Rattle.gl_model.specs.declared.row.Row.{Row}
use Rattle.gl_rule.specs.declared.slot.Slot.TheVariants as slot
use Rattle.gl_rule.specs.View.{Taken, moved, refused}
use Rattle.gl_table.specs.PassView.{PassView, view_of, after}

-- what is owed but the word of x
abbrev pub without_owed : ℕ → List (ℕ × ℤ) → List (ℕ × ℤ)
without_owed x owed = filter (λ (o : ℕ × ℤ). not (o.0 == x)) owed

-- the pass read the turn of x's row as held by another
abbrev pub read_busy : PassView → ℕ → ℕ → PassView
read_busy p x by = after p (refused (view_of p) (suc x) by)

-- the pass took x's row as it was then, and put it back with the word that it owed: four steps, two on the turn and two on the slot
abbrev pub written_back : PassView → ℕ → Row → PassView
written_back p x row = record p {
  own = record p.own { owed = without_owed x p.own.owed };
  reads = p.reads ++ Taken (suc x) (slot.Row row)
      ∷ [];
  moves = moved 4 p.moves;
}

-- that row, whatever it was
abbrev pub IsWrittenBack : PassView → ℕ → PassView → Type 0
IsWrittenBack p x q = (row : Row) × (q ≡ written_back p x row)
