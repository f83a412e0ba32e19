use Rattle.std.proofs.Common.{◌≡◌, map, take}
use Rattle.gl_form.proofs.alone.looked.Given as goal

abbrev pub invariant-loop-i : goal.invariant-loop-i
invariant-loop-i l = l.vars ≡ take l.i (map (λ a. a.var) l.looks)
