use Rattle.std.proofs.Common.{◌≡◌, ◌-◌, ◌≤◌, [], ◌++◌, vec_len, vec_capacity}
use Rattle.gl_rule.specs.Opened.{shelves_from}
use Rattle.gl_rule.specs.View.{blank}
use Rattle.gl_table.specs.Beginning.{fresh_from}
use Rattle.gl_table.proofs.new.begin.Given as goal

abbrev pub invariant-loop-id : goal.invariant-loop-id
invariant-loop-id l = (vec_len l.passes ≡ l.id) × (16 ≤ vec_capacity l.passes) × (l.seat.table_id ≡ l.table.shared.table_id)
    × (l.seat.me ≡ (blank (shelves_from l.id (16 - l.id)), []))
    × (l.passes.items ++ fresh_from l.table.shared.table_id l.id (16 - l.id) ≡ fresh_from l.table.shared.table_id 0 16)
