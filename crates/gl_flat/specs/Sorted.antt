-- The order of performed writes: by variable, then by number, then by value.
use Rattle.std.specs.Ordering.{int_cmp, nat_cmp, ordering_then}
use Rattle.std.specs.declared.cmp.Ordering.{Ordering}
use Rattle.gl_flat.specs.declared.writes.Written.{Written}

abbrev pub written_cmp : Written → Written → Ordering
written_cmp v w = ordering_then (nat_cmp v.var w.var) (ordering_then (nat_cmp v.nth w.nth) (int_cmp v.value w.value))
