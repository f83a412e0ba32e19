use Rattle.std.proofs.Common.{◌≡◌, ℕ, List, length, take}
use Rattle.gl_table.specs.Unpacking.{HaveIds}
use Rattle.gl_table.proofs.unpack.vars_of.Given as goal

abbrev pub invariant-loop-j : goal.invariant-loop-j
invariant-loop-j l = (xs : List ℕ) → HaveIds l.words xs → l.count ≡ length xs → l.vars ≡ take l.j xs
