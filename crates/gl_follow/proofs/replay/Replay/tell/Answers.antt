use Rattle.std.proofs.Common.{◌≡◌, sym, ap, ◌∙◌, subst}
use Rattle.gl_bytecode.specs.Machine.{Config, next}
use Rattle.gl_bytecode.specs.Runs.{Progress}
use Rattle.gl_vm.specs.Asking.{AsksInRange}
use Rattle.gl_vm.specs.Orderly.{IsOrderly}
use Rattle.gl_follow.proofs.Driving.{orderly_next}
use Rattle.gl_follow.proofs.replay.Replay.tell.Goals as goal

pub returns-clause-can : goal.returns-clause-can
returns-clause-can c =
    let P = c.args.program.now in
    let p = c.args.self.now in
    let machine : c.self-2.inside.machine ≡ p.config = ap (λ (q : Progress). q.config) (c.self-2.view_is ∙ c.note.ensures) in
    let new : c.step.new.self ≡ next P p.config c.args.reply = c.step.ensures.next ∙ ap (λ (m : Config). next P m c.args.reply) machine in
    record {
      fits = c.step.ensures.fits;
      orderly = subst (IsOrderly P) (sym new) (orderly_next P p c.args.reply c.requires.can.orderly c.requires.taken);
      in_range = subst (AsksInRange P) c.step.ensures.ask c.step.ensures.in_range;
    }
