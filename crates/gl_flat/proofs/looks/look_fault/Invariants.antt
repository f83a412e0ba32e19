use Rattle.std.proofs.Common.{◌<◌}
use Rattle.gl_model.specs.Entries.{Entry}
use Rattle.gl_model.specs.Flat.{ReadsRight}
use Rattle.gl_model.specs.Lists.{lists_of}
use Rattle.gl_model.specs.Records.{EntryAt, Place}
use Rattle.gl_flat.proofs.looks.look_fault.Given as goal

-- the looks of each entry of the threads so far are right
abbrev pub invariant-loop-thread : goal.invariant-loop-thread
invariant-loop-thread l = (c : Place) (e : Entry) → c.thread < l.thread → EntryAt (lists_of l.made) c e → ReadsRight (lists_of l.made) e
