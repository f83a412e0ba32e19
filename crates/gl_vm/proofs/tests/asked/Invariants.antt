use Rattle.gl_bytecode.specs.Fits.{Fits}
use Rattle.gl_vm.proofs.tests.asked.Given as goal

abbrev pub invariant-loop : goal.invariant-loop
invariant-loop l = Fits l.program l.machine
