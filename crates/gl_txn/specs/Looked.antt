-- What a look did.
use Rattle.std.specs.Prelude.{◌≡◌, ℕ, suc, [], ◌∷◌, ◌++◌, Some}
use Rattle.gl_model.specs.declared.row.Row.{Row}
use Rattle.gl_model.specs.declared.tx.Look.{Look}
use Rattle.gl_draws.specs.Ties.{Drawn}
use Rattle.gl_rule.specs.declared.slot.Slot.TheVariants as slot
use Rattle.gl_rule.specs.View.{Taken, moved}
use Rattle.gl_table.specs.PassView.{PassView}

-- the number of a look that waits
abbrev pub drawn_of : Look → Drawn
drawn_of l = record { var = l.var; nth = l.nth; look = Some l.value }

-- the row of x was taken as it was then, its word looked at, and a number drawn
abbrev pub IsLookAt : ℕ → Look → PassView → PassView → Type 0
IsLookAt x l p q =
    (row : Row) × (l.var ≡ x) × (row.value ≡ l.value)
    × (q ≡ record p {
      own = record p.own { drawn = p.own.drawn ++ drawn_of l ∷ [] };
      reads = p.reads ++ Taken (suc x) (slot.Row row)
          ∷ [];
      moves = moved 5 p.moves;
    })
