use Rattle.std.proofs.Common.{◌≡◌, take}
use Rattle.gl_gen.specs.Drafts.{with_function}
use Rattle.gl_gen.proofs.accounts.add_function.Given as goal

abbrev pub invariant-loop-instr : goal.invariant-loop-instr
invariant-loop-instr l = l.parts ≡ with_function l.args l.locals (take l.instr-index l.code) l.fn.parts
