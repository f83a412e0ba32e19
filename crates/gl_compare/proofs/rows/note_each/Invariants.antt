use Rattle.std.proofs.Common.{ℕ, ◌≤◌, take}
use Rattle.gl_compare.specs.Kept.{AreWithin}
use Rattle.gl_compare.specs.Rows.{asked_part, AreNoted}
use Rattle.gl_compare.proofs.RowSets.{Each}
use Rattle.gl_compare.proofs.rows.note_each.Given as goal

-- the commit is noted in the rows of the variables that were looked at
abbrev pub invariant-loop-var : goal.invariant-loop-var
invariant-loop-var l = record {
  noted : AreNoted (take l.var-index l.var-items) (asked_part l.commit l.writes) l.pos l.fn.rows.items l.rows.items;
  each : Each (asked_part l.commit l.writes) l.pos l.fn.rows.items l.rows.items;
  within : (n : ℕ) → l.pos ≤ n → AreWithin n l.fn.rows.items → AreWithin n l.rows.items;
}
