use Rattle.std.proofs.Common.{◌≡◌, ◌≤◌, length, map, take}
use Rattle.gl_causes.specs.Judging.{IsLatest, races_among}
use Rattle.gl_causes.specs.Stands.{stand_seen}
use Rattle.gl_causes.proofs.races.find.Given as goal

abbrev pub invariant-loop-place : goal.invariant-loop-place
invariant-loop-place l = record {
  last : IsLatest l.asked (take l.place-index (map stand_seen l.stands)) l.last;
  count : l.count ≡ length (races_among l.asked (take l.place-index (map stand_seen l.stands)));
  few : l.count ≤ l.place-index;
}
