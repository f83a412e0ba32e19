-- An attempt's fields, and what is true of them.
use Rattle.std.specs.Prelude.{◌≡◌, ◌≤◌, [], map, vec_capacity}
use Rattle.gl_model.specs.declared.limits.TheConstants.{TX_VARIABLES}
use Rattle.gl_txn.specs.Attempts.{Attempting, variables_in}
use Rattle.gl_txn.specs.declared.attempt.Txn.TheInside.{Inside}

abbrev pub txn_view : Inside → Attempting
txn_view t = record { looks = t.tx.value.looks; writes = t.tx.value.writes }

pub record IsTxn (t : Inside) : Type 0 where
  -- the variables that it looked at, and all of them
  pub looked : t.looked ≡ map (λ l. l.var) t.tx.value.looks
  pub all : t.all ≡ variables_in t.tx.value.looks t.tx.value.writes
  -- no number of its end is drawn, and no row is held, for each of which there is room
  pub unnumbered : t.tx.value.numbers ≡ []
  pub empty : t.rows.items ≡ []
  pub room : TX_VARIABLES ≤ vec_capacity t.rows
