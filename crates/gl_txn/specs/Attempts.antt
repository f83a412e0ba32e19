-- What an attempt is seen as: the words that it looked at and those that it is to write, and what its own calls make of them.
use Rattle.std.specs.Prelude.{◌≡◌, ℕ, ℤ, ◌==◌, Bool, true, false, if◌then◌else◌, List, [], length, map, Option, Some, None}
use Rattle.std.specs.List.{find}
use Rattle.gl_model.specs.declared.limits.TheConstants.{TX_VARIABLES}
use Rattle.gl_model.specs.declared.tx.Look.{Look}
use Rattle.gl_model.specs.declared.tx.Pair.{Pair}
use Rattle.gl_model.specs.Rising.{with_all, with_part}

pub record Attempting : Type 0 where
  pub looks : List Look
  pub writes : List Pair

-- an attempt that has done nothing
abbrev pub nothing : Attempting
nothing = record { looks = []; writes = [] }

abbrev pub written : Attempting → ℕ → Option Pair
written a x = find (λ p. p.var == x) a.writes

abbrev pub looked : Attempting → ℕ → Option Look
looked a x = find (λ p. p.var == x) a.looks

-- the variables of these looks and writes, rising
abbrev pub variables_in : List Look → List Pair → List ℕ
variables_in looks writes = with_all (map (λ w. w.var) writes) (map (λ l. l.var) looks)

-- how many variables are in it
abbrev pub size : Attempting → ℕ
size a = length (variables_in a.looks a.writes)

abbrev pub is_in_by : Option Pair → Option Look → Bool
is_in_by (Some w) look = true
is_in_by None (Some l) = true
is_in_by None None = false

-- it has written or looked at the variable
abbrev pub is_in : Attempting → ℕ → Bool
is_in a x = is_in_by (written a x) (looked a x)

-- it has as many variables as it may have, and this is not one of them
pub record IsTooLarge (a : Attempting) (x : ℕ) : Type 0 where
  pub new : is_in a x ≡ false
  pub full : size a ≡ TX_VARIABLES

-- a write more, in place of one of its variable
abbrev pub with_write : ℕ → ℤ → Attempting → Attempting
with_write x value a = record a { writes = with_part (λ p. p.var) (record { var = x; value = value }) a.writes }

-- a look more, which drew the number nth
abbrev pub with_look : ℕ → ℤ → ℕ → Attempting → Attempting
with_look x value nth a = record a { looks = with_part (λ p. p.var) (record { var = x; value = value; nth = nth }) a.looks }

-- the writes of its end, which are dropped where they are not kept
abbrev pub writes_at : Attempting → Bool → List Pair
writes_at a keep = if keep then a.writes else []
