use Rattle.std.proofs.Common.{◌<◌, ◌∙◌, length, get_or, pos, ap, arith}
use Rattle.gl_bytecode.specs.declared.instr.Instr.{Instr}
use Rattle.gl_bytecode.specs.declared.instr.Instr.TheVariants.{Push}
use Rattle.gl_bytecode.specs.Programs.{with_instr}
use Rattle.gl_gen.proofs.Ranges.{instr_more}
use Rattle.gl_gen.proofs.accounts.add_function.Goals as goal

pub loop-instr-preserved : goal.loop-instr-preserved
loop-instr-preserved c =
    let code = c.args.code.now in
    let k = c.loop-instr.instr-index in
    let within : k < length code = omega arith in
    let none : Instr = Push (pos 0) in
    c.in_ok-instr.ensures.ok ∙ ap (with_instr (get_or code k none)) c.loop-instr.invariant
    ∙ instr_more c.args.args c.args.locals c.args.parts.now code k none within
