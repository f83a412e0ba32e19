use Rattle.std.proofs.Common.{◌≡◌}
use Rattle.gl_bytecode.specs.Faults.{instr_fault}
use Rattle.gl_bytecode.specs.Searches.{IsRightBefore}
use Rattle.gl_bytecode.proofs.contents.Contents.wrong_instr.Given as goal

abbrev pub invariant-loop-at : goal.invariant-loop-at
invariant-loop-at l = (l.instr-items ≡ l.function.code) × IsRightBefore (instr_fault l.self l.function) l.function.code l.at
