use Rattle.std.proofs.Common.{◌≡◌, map, subst, arith}
use Rattle.gl_model.specs.Lists.{lists_of}
use Rattle.gl_model.specs.declared.limits.TheConstants.{THREADS}
use Rattle.gl_sites.proofs.RecordMakers.{AreMadeBelow, all_below}
use Rattle.gl_sites.proofs.recorded.makers_of.Goals as goal

pub returns : goal.returns
returns c =
    let end : c.loop-thread.thread ≡ THREADS = omega arith in
    all_below c.args.program.now c.args.steps c.args.made.now (map (λ v. v.items) c.loop-thread.all.items) c.keeps.ensures.1
    (subst (λ n. AreMadeBelow c.args.program.now c.args.steps (lists_of c.args.made.now) n (map (λ v. v.items) c.loop-thread.all.items)) end
    c.loop-thread.invariant)
