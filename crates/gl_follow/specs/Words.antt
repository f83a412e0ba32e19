-- The words of a running attempt, and the sets that are kept beside them.
use Rattle.std.specs.Prelude.{ℕ, ℤ, List, length, map}
use Rattle.gl_model.specs.declared.tx.Look.{Look}
use Rattle.gl_model.specs.declared.tx.Pair.{Pair}
use Rattle.gl_model.specs.Rising.{with_all}

-- what it looked at and wrote, by rising variable
pub record Touched : Type 0 where
  pub looks : List (ℕ × ℤ)
  pub writes : List (ℕ × ℤ)

abbrev pub look_word : Look → ℕ × ℤ
look_word l = (l.var, l.value)

abbrev pub pair_word : Pair → ℕ × ℤ
pair_word p = (p.var, p.value)

abbrev pub pair_var : Pair → ℕ
pair_var p = p.var

-- how many variables it touched
abbrev pub size_of : Touched → ℕ
size_of t = length (with_all (map (λ w. w.0) t.writes) (map (λ w. w.0) t.looks))
