use Rattle.std.proofs.Common.{◌≡◌, ◌++◌, map, take}
use Rattle.gl_model.specs.Entries.{seen}
use Rattle.gl_places.specs.Uses.{positions_on, use_seen, uses_from}
use Rattle.gl_places.proofs.uses.add_positions.Given as goal

abbrev pub invariant-loop-i : goal.invariant-loop-i
invariant-loop-i l =
    map use_seen l.uses.items ≡ map use_seen l.fn.uses.items ++ uses_from positions_on l.thread 0 (take l.i (map seen l.list))
