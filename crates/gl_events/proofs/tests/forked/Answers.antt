use Rattle.std.proofs.Common.{◌==◌, if◌then◌else◌, pos, refl, arith}
use Rattle.gl_model.specs.declared.event.Act.TheVariants.{Fork, Fail}
use Rattle.gl_events.specs.Calls.{child_in, threads_full}
use Rattle.gl_events.specs.declared.call.Call.TheVariants as call
use Rattle.gl_events.proofs.GoingOn.{goes_on, one_more, fork_runs}
use Rattle.gl_events.proofs.tests.forked.Goals as goal

pub returns-in-Ok-clause-may : goal.returns-in-Ok-clause-may
returns-in-Ok-clause-may c = goes_on call.End c.args.shared.now c.args.pass.now c.fork.new.pass c.in-Ok.done.at
    (if c.in-Ok.done.code == 0 then Fork (child_in c.in-Ok.done.value) 1 else Fail threads_full)
    (if c.in-Ok.done.code == 0 then pos 9 else pos 0)
    c.requires.may refl (fork_runs (c.in-Ok.done.code == 0) (child_in c.in-Ok.done.value) 1 threads_full) c.in-Ok.ensures.own
    (let e = c.in-Ok.ensures.done.spare in let h = c.requires.room in omega arith)
    (let h = c.requires.few in omega arith)

pub returns-in-Ok-clause-count : goal.returns-in-Ok-clause-count
returns-in-Ok-clause-count c =
    let e = one_more c.args.pass.now c.fork.new.pass c.in-Ok.done.at
    (if c.in-Ok.done.code == 0 then Fork (child_in c.in-Ok.done.value) 1 else Fail threads_full)
    (if c.in-Ok.done.code == 0 then pos 9 else pos 0) c.in-Ok.ensures.own
    in omega arith
