use Rattle.std.proofs.Common.{◌≡◌, ◌≤◌, false, replicate, vec_len, vec_capacity}
use Rattle.gl_table.proofs.rights.Rights.none.Given as goal

abbrev pub invariant-loop : goal.invariant-loop
invariant-loop l = (l.places.items ≡ replicate l.counter (record { block = 0; nth = 0; write = false })) × (vec_len l.places ≡ l.counter)
    × (1024 ≤ vec_capacity l.places)
