use Rattle.std.proofs.Common.{◌≡◌, ℕ, List, map}
use Rattle.gl_model.specs.Entries.{Entry, seen}
use Rattle.gl_causes.specs.Stands.{AreStands, stand_seen}
use Rattle.gl_raised.specs.Gathers.{block_before}
use Rattle.gl_causes.proofs.stands.add_list.Given as goal

abbrev pub invariant-loop-index : goal.invariant-loop-index
invariant-loop-index l = record {
  block : l.block ≡ block_before (map seen l.list) l.index;
  laid_out :
      (R : ℕ → List Entry) → R l.thread ≡ map seen l.list
      → AreStands R (record { thread = l.thread; index = 0 }) (map stand_seen l.fn.stands.items) →
      AreStands R (record { thread = l.thread; index = l.index }) (map stand_seen l.stands.items);
}
