use Rattle.std.proofs.Common.{ℕ, ◌<◌, map}
use Rattle.gl_model.specs.Entries.{seen}
use Rattle.gl_form.specs.Come.{HasCome}
use Rattle.gl_form.specs.Rules.{KeepsForm}
use Rattle.gl_form.proofs.fault.list_fault.Given as goal

abbrev pub invariant-loop-i : goal.invariant-loop-i
invariant-loop-i l = record {
  come : HasCome (map seen l.list) l.i l.walk;
  keep : (j : ℕ) → j < l.i → KeepsForm l.thread (map seen l.list) j;
}
