use Rattle.std.proofs.Common.{◌≡◌, ◌≤◌, ◌++◌, length}
use Rattle.std.specs.Vec.Iter.{into_iter_items, into_iter_len}
use Rattle.gl_rule.specs.Closed.{kept_lists}
use Rattle.gl_table.specs.Ending.{IsRoot, shelves_of}
use Rattle.gl_table.proofs.close.gather.Given as goal

abbrev pub invariant-loop-pass : goal.invariant-loop-pass
invariant-loop-pass l = (l.yielded ++ into_iter_items l.pass-iterator ≡ into_iter_items l.initial.pass-iterator)
    × (length (into_iter_items l.pass-iterator) ≡ into_iter_len l.pass-iterator)
    × (into_iter_len l.pass-iterator ≤ l.room.room)
    × (l.root.table_id ≡ l.initial.root.table_id) × IsRoot l.root.me l.yielded
    × (l.room.lists ≡ kept_lists (shelves_of l.yielded))
