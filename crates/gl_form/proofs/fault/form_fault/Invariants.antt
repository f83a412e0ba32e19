use Rattle.gl_form.proofs.Places.{NoneBelow}
use Rattle.gl_form.proofs.fault.form_fault.Given as goal

abbrev pub invariant-loop-thread : goal.invariant-loop-thread
invariant-loop-thread l = NoneBelow l.made l.thread
