use Rattle.std.proofs.Common.{◌≡◌, length, replicate, take}
use Rattle.gl_cache.specs.Slots.{no_slot}
use Rattle.gl_cache.proofs.cache.wipe.Given as goal

abbrev pub invariant-loop-i : goal.invariant-loop-i
invariant-loop-i l = (take l.i l.slots.items ≡ replicate l.i no_slot) × (length l.slots.items ≡ 1024)
