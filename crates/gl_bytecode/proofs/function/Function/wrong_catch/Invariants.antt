use Rattle.std.proofs.Common.{◌≡◌}
use Rattle.gl_bytecode.specs.Faults.{catch_fault}
use Rattle.gl_bytecode.specs.Searches.{IsRightBefore}
use Rattle.gl_bytecode.proofs.function.Function.wrong_catch.Given as goal

abbrev pub invariant-loop-i : goal.invariant-loop-i
invariant-loop-i l = (l.catch-items ≡ l.self.catches) × IsRightBefore (catch_fault l.self) l.self.catches l.i
