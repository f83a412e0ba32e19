use Rattle.std.proofs.Common.{◌≡◌, ℕ, List, map}
use Rattle.gl_model.specs.Entries.{Entry, seen}
use Rattle.gl_raised.specs.Gathers.{AreGathered, block_before}
use Rattle.gl_raised.proofs.gather.add_list.Given as goal

abbrev pub invariant-loop-index : goal.invariant-loop-index
invariant-loop-index l = record {
  block : l.block ≡ block_before (map seen l.list) l.index;
  gathered :
      (R : ℕ → List Entry) → R l.thread ≡ map seen l.list
      → AreGathered R (record { thread = l.thread; index = 0 }) l.fn.all.claims.items l.fn.all.accesses.items →
      AreGathered R (record { thread = l.thread; index = l.index }) l.all.claims.items l.all.accesses.items;
}
