use Rattle.std.proofs.Common.{length, ap, arith}
use Rattle.gl_bytecode.specs.Faults.{instr_fault}
use Rattle.gl_bytecode.proofs.Searching.{all_right, right_more}
use Rattle.gl_bytecode.proofs.contents.Contents.wrong_instr.Goals as goal

pub loop-at-preserved : goal.loop-at-preserved
loop-at-preserved c = (
  c.loop-at.invariant.0,
  right_more (instr_fault c.args.self.now c.args.function.now) _ c.args.function.now.code c.loop-at.at _ c.instr_fault.result
      c.loop-at.invariant.0 c.loop-at-test.true c.instr_fault.ensures c.in_default.is c.loop-at.invariant.1,
)

pub returns : goal.returns
returns c =
    let many = ap length c.loop-at.invariant.0 in
    all_right (instr_fault c.args.self.now c.args.function.now) c.args.function.now.code c.loop-at.at (omega arith) c.loop-at.invariant.1
