use Rattle.std.proofs.Common.{◌==◌, if◌then◌else◌, pos, refl, arith}
use Rattle.gl_model.specs.declared.event.Act.TheVariants.{Rel, Fail}
use Rattle.gl_events.specs.Calls.{not_owner}
use Rattle.gl_events.specs.declared.call.Call.TheVariants as call
use Rattle.gl_events.proofs.GoingOn.{goes_on, one_more, exit_runs}
use Rattle.gl_events.proofs.tests.left.Goals as goal

pub returns-in-Ok-clause-may : goal.returns-in-Ok-clause-may
returns-in-Ok-clause-may c = goes_on call.End c.args.shared.now c.args.pass.now c.exit.new.pass c.in-Ok.done.at
    (if c.in-Ok.done.code == 0 then Rel c.args.monitor else Fail not_owner) (if c.in-Ok.done.code == 0 then pos 0 else pos c.args.monitor)
    c.requires.may refl (exit_runs (c.in-Ok.done.code == 0) c.args.monitor not_owner) c.in-Ok.ensures.own
    (let e = c.in-Ok.ensures.done.spare in let h = c.requires.room in omega arith)
    (let h = c.requires.few in omega arith)

pub returns-in-Ok-clause-count : goal.returns-in-Ok-clause-count
returns-in-Ok-clause-count c =
    let e = one_more c.args.pass.now c.exit.new.pass c.in-Ok.done.at (if c.in-Ok.done.code == 0 then Rel c.args.monitor else Fail not_owner)
    (if c.in-Ok.done.code == 0 then pos 0 else pos c.args.monitor) c.in-Ok.ensures.own
    in omega arith
