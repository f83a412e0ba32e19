-- What is asked of an access that is repeated.
use Rattle.std.specs.Prelude.{◌≡◌, ℕ, ℤ, Bool, true, false, [], length, Some}
use Rattle.gl_draws.specs.Cached.{IsLastValue}
use Rattle.gl_rule.specs.Lives.{Running, life_of}
use Rattle.gl_table.specs.PassView.{PassView}
use Rattle.gl_table.specs.RightOf.{right_of}

-- the pass holds nothing, its thread runs, and it has the right to repeat the access of x with the number k: for a write that of a write;
-- a read has the value of the last performed access
pub record MayRepeat (p : PassView) (x k : ℕ) (write : Bool) (value : ℤ) : Type 0 where
  pub held : p.own.held ≡ []
  pub runs : life_of p.own.mine ≡ Running
  pub by_write : Bool
  pub right : right_of p.own.mine x ≡ Some (k, by_write)
  pub enough : write ≡ true → by_write ≡ true
  pub word : write ≡ false → IsLastValue p.own.mine (length p.own.mine) x value
