use Rattle.std.proofs.Common.{◌≡◌, map, take}
use Rattle.gl_draws.specs.Ties.{last_position}
use Rattle.gl_model.specs.Entries.{seen}
use Rattle.gl_causes.proofs.Passing.{IsLastBelow}
use Rattle.gl_causes.proofs.leading.last_passed.Given as goal

abbrev pub invariant-loop-index : goal.invariant-loop-index
invariant-loop-index l = record {
  block : l.block ≡ last_position (take l.index (map seen l.list));
  last : IsLastBelow (map seen l.list) l.known l.index l.last;
}
