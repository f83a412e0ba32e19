use Rattle.std.proofs.Common.{◌≡◌, ap, ◌∙◌}
use Rattle.gl_bytecode.proofs.Attending.{attends_on}
use Rattle.gl_bytecode.proofs.Soundness.{Fits-next}
use Rattle.gl_bytecode.specs.Machine.{Config, ask_of, next}
use Rattle.gl_vm.proofs.Asking.{asks_in_range}
use Rattle.gl_vm.proofs.machine.Machine.step.Goals as goal

pub returns-clause-fits : goal.returns-clause-fits
returns-clause-fits c =
    rw c.advance.ensures
    (Fits-next c.args.program.now c.args.self.now c.args.reply c.requires.fits c.requires.taken c.requires.start)

pub returns-clause-inside : goal.returns-clause-inside
returns-clause-inside c =
    rw (c.asked.ensures.value, c.advance.ensures)
    (attends_on c.args.program.now c.args.self.now c.args.reply c.requires.fits c.requires.taken).attends

pub returns-clause-attempt : goal.returns-clause-attempt
returns-clause-attempt c =
    rw c.advance.ensures (attends_on c.args.program.now c.args.self.now c.args.reply c.requires.fits c.requires.taken).runs

pub returns-clause-in_range : goal.returns-clause-in_range
returns-clause-in_range c =
    let is : c.asked.result ≡ ask_of (next c.args.program.now c.args.self.now c.args.reply).stage =
    c.asked.ensures.value ∙ ap (λ (m : Config). ask_of m.stage) c.advance.ensures in
    rw is
    (asks_in_range c.args.program.now c.args.self.now c.args.reply c.requires.fits c.requires.taken (rw is at c.asked.ensures.monitor))
