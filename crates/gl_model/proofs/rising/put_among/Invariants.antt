use Rattle.std.proofs.Common.{◌≡◌, ◌∷◌, [], ◌++◌, take, drop, length}
use Rattle.std.specs.Prelude.{slice_range}
use Rattle.gl_model.proofs.rising.put_among.Given as goal

abbrev pub invariant-loop-j : goal.invariant-loop-j
invariant-loop-j g l = record {
  moved : take l.j l.parts ++ l.carried ∷ [] ≡ take l.fn.i l.fn.parts ++ l.fn.x ∷ slice_range l.fn.parts l.fn.i l.j;
  kept : drop l.j l.parts ≡ drop l.j l.fn.parts;
  long : length l.parts ≡ length l.fn.parts;
}
