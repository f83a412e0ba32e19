-- How great the positions, numbers and low marks of a closed table's record can be.
use Rattle.std.specs.Prelude.{ℕ, ◌+◌, ◌*◌, ◌<◌, ◌^◌, ◌≡◌, ◌⊎◌, Some}
use Rattle.gl_model.specs.declared.limits.TheConstants.{THREADS}
use Rattle.gl_model.specs.Entries.{Entry, Trim}
use Rattle.gl_model.specs.Form.{Draws}
use Rattle.gl_model.specs.Records.{Lists, Place, EntryAt, NumberOn, position_of}

-- how many entries that are no Trims a thread makes at most
abbrev pub most_entries : ℕ
most_entries = 2 ^ 50

-- and so how many events there are at most
abbrev pub most_events : ℕ
most_events = THREADS * most_entries

-- of the numbers of one variable a thread draws at most two for each of its entries, and two more that have none yet
abbrev pub most_draws : ℕ
most_draws = THREADS * (2 * most_entries + 2)

-- what the positions, the numbers and the low marks are below: there are no more positions than events, and no more numbers than
-- draws; and a segment has a cell
abbrev pub most_stamp : ℕ
most_stamp = 2 ^ 56

-- each position, each number of a look, of an access or of the end of an attempt, and each low mark
pub record IsBounded (R : Lists) : Type 0 where
  pub positions : (c : Place) (e : Entry) (p : ℕ) → EntryAt R c e → position_of e ≡ Some p → p < most_stamp
  pub numbers : (c : Place) (e : Entry) (x k : ℕ) → EntryAt R c e → Draws e x k ⊎ NumberOn e x k → k < most_stamp
  pub lows : (c : Place) (low : ℕ) → EntryAt R c (Trim low) → low < most_stamp
