-- what was read so far was taken from the front, there is room for the rest, and no fault came
use Rattle.std.proofs.Common.{◌≡◌, ◌≤◌, ◌-◌, vec_len, vec_capacity}
use Rattle.std.specs.Io.KnownBytes.{Consumes}
use Rattle.gl_io.proofs.whole.read_all.Given as goal

abbrev pub invariant-loop-out : goal.invariant-loop-out
invariant-loop-out g l =
    (g.S.Source.faults l.source ≡ g.S.Source.faults l.fn.source)
    × Consumes (g.S.Source.left l.fn.source) (g.S.Source.left l.source) l.out.items
    × (vec_len l.out ≤ l.most) × (l.most ≤ vec_capacity l.out)

abbrev pub decreases-loop-out : goal.decreases-loop-out
decreases-loop-out g l = l.most - vec_len l.out
