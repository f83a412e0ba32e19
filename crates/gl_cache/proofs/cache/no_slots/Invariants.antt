use Rattle.std.proofs.Common.{◌≡◌, ◌≤◌, vec_len, vec_capacity, replicate}
use Rattle.gl_cache.specs.Slots.{no_slot}
use Rattle.gl_cache.proofs.cache.no_slots.Given as goal

abbrev pub invariant-loop : goal.invariant-loop
invariant-loop l = (l.slots.items ≡ replicate l.counter no_slot) × (vec_len l.slots ≡ l.counter) × (1024 ≤ vec_capacity l.slots)
