use Rattle.std.proofs.Common.{◌∙◌, sym, ap, length, arith}
use Rattle.gl_threads.proofs.Boarding.{fresh_long, fresh_new}
use Rattle.gl_threads.proofs.Closing.{back_done, back_runs, back_spared, crews_through}
use Rattle.gl_threads.proofs.working.run_passes.Goals as goal

pub deal-requires : goal.deal-requires
deal-requires g c = record {
  workers = c.requires.workers;
  few = ap length c.requires.new ∙ fresh_long c.args.run.now.table.now.id 0 16;
  new = fresh_new c.args.run.now.table.now.id c.args.passes.items c.requires.new;
}

pub run_crews-requires-clause-some : goal.run_crews-requires-clause-some
run_crews-requires-clause-some g c = omega (arith, c.requires.workers, c.in_ok-crews.ensures.dealt.long)

pub gather-requires-clause-dealt : goal.gather-requires-clause-dealt
gather-requires-clause-dealt g c =
    (crews_through c.args.run.now.program.now c.args.run.now.steps c.args.run.now.table.now.id c.args.workers c.in_ok-crews.crews.items
    c.run_crews.new.crews.items
    c.in_ok-crews.ensures.dealt c.run_crews.ensures.long c.run_crews.ensures.done (sym c.has_stopped.ensures
    ∙ c.if-has_stopped.false)).dealt

pub gather-requires-clause-done : goal.gather-requires-clause-done
gather-requires-clause-done g c =
    (crews_through c.args.run.now.program.now c.args.run.now.steps c.args.run.now.table.now.id c.args.workers c.in_ok-crews.crews.items
    c.run_crews.new.crews.items
    c.in_ok-crews.ensures.dealt c.run_crews.ensures.long c.run_crews.ensures.done (sym c.has_stopped.ensures ∙ c.if-has_stopped.false)).done

pub returns : goal.returns
returns g c = record {
  done = back_done c.args.run.now.program.now c.args.run.now.steps c.args.run.now.table.now.id c.in_ok-back.back.items c.in_ok-back.ensures.all
      c.in_ok-back.ensures.back;
  runs = back_runs c.args.run.now.program.now c.args.run.now.steps c.args.run.now.table.now.id c.in_ok-back.back.items c.in_ok-back.ensures.back;
  sparing = back_spared c.args.run.now.program.now c.args.run.now.steps c.args.run.now.table.now.id c.in_ok-back.back.items c.in_ok-back.ensures.back;
}
