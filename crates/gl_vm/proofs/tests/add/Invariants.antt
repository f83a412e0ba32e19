use Rattle.std.proofs.Common.{◌<◌, length}
use Rattle.gl_vm.proofs.tests.add.Given as goal

abbrev pub invariant-loop-from : goal.invariant-loop-from
invariant-loop-from l = 0 < length l.parts.functions
