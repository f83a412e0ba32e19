use Rattle.std.proofs.Common.{◌<◌, length}
use Rattle.gl_vm.proofs.tests.add_code.Given as goal

abbrev pub invariant-loop-instr : goal.invariant-loop-instr
invariant-loop-instr l = 0 < length l.parts.functions
