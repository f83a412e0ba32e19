use Rattle.gl_model.specs.declared.event.Act.TheVariants.{Begin}
use Rattle.gl_events.specs.Acting.{MayStart}
use Rattle.gl_events.specs.Answers.{IsDone}
use Rattle.gl_events.specs.declared.done.Done.{Done}
use Rattle.gl_events.proofs.Beginnings.{done_starts, ok_map}
use Rattle.gl_events.proofs.events.begin.Goals as goal

pub returns-clause-starts : goal.returns-clause-starts
returns-clause-starts c =
    let z = c.args.shared.now in
    let p = c.args.pass.now in
    let q = c.event.new.pass in
    ok_map (λ (d : Done). IsDone z p q (Begin d.func) d.value d) (λ (d : Done). MayStart z.key.setting d.func)
    (λ d is. done_starts z p q d is) c.event.result c.event.ensures.done
