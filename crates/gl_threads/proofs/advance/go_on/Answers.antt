use Rattle.std.proofs.Common.{◌∙◌, sym, refl}
use Rattle.gl_threads.proofs.Stepping.{goes_on}
use Rattle.gl_threads.proofs.advance.go_on.Goals as goal

pub loop-k-preserved : goal.loop-k-preserved
loop-k-preserved c =
    let s = goes_on c.args.run.now.program.now c.args.run.now.table.now.id c.loop-k.machine c.step.new.self c.args.pass.now.own c.args.pass.now.own
    c.args.txn.now c.step.result
    c.loop-k.invariant.0 refl (sym c.in-Go.is ∙ c.asked.ensures.value) c.step.ensures.next c.step.ensures.ask c.step.ensures.in_range
    c.step.ensures.attempt in
    (s.rides, s.limit ∙ c.loop-k.invariant.1)
