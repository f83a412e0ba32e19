-- What a list's state is seen as.
use Rattle.std.specs.Prelude.{ℕ, ℤ, List, Option}
use Rattle.gl_state.specs.declared.state.Stage.{Stage}

pub record ListView : Type 0 where
  pub threads : List Stage
  -- owner and depth
  pub monitors : List (Option (ℕ × ℕ))
  pub volatiles : List ℤ
  pub next_object : ℕ
  pub next_variable : ℕ
  pub next_volatile : ℕ
  pub inputs_taken : ℕ
