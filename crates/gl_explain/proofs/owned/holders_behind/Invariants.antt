use Rattle.std.proofs.Common.{map, take}
use Rattle.gl_explain.specs.Owned.{AreHolders, IsWithin}
use Rattle.gl_explain.specs.Told.{step_of, told_of}
use Rattle.gl_explain.proofs.owned.holders_behind.Given as goal

abbrev pub invariant-loop-k : goal.invariant-loop-k
invariant-loop-k l = record {
  holders : AreHolders (map step_of (told_of (take l.k-index l.kept))) l.holders;
  within : IsWithin l.k-index l.holders;
}
