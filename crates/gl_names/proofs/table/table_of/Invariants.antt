use Rattle.std.proofs.Common.{◌≡◌, ℕ, length}
use Rattle.std.specs.Option.{option_or}
use Rattle.gl_names.specs.Names.{count_of, name_in, name_of}
use Rattle.gl_names.specs.Tables.{slot}
use Rattle.gl_names.proofs.table.table_of.Given as goal

-- what a table lacks of the names is what the lines that are left give
abbrev pub invariant-loop-line : goal.invariant-loop-line
invariant-loop-line l = record {
  length : length l.table.items ≡ count_of l.kind;
  names : (n : ℕ) → option_or (slot l.table.items n) (name_in l.kind n l.lines.left) ≡ name_of l.text l.kind n;
}

abbrev pub decreases-loop-line : goal.decreases-loop-line
decreases-loop-line l = length l.lines.left
