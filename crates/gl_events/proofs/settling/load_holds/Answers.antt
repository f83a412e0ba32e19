use Rattle.std.proofs.Common.{arith, refl, rules, ◌<◌}
use Rattle.gl_model.specs.declared.limits.TheConstants.{VARIABLES}
use Rattle.gl_events.proofs.HoldsLoaded.{loaded_none, loaded_more, lesser_is}
use Rattle.gl_events.proofs.settling.load_holds.Goals as goal

pub loop-var-init : goal.loop-var-init
loop-var-init c = (loaded_none c.args.pass.now 18446744073709551615, λ _. refl)

pub loop-var-preserved : goal.loop-var-preserved
loop-var-preserved c =
    let l = c.loop-var in
    let near : l.var < VARIABLES = search rules in
    let k = c.lesser-least.ensures in (
      loaded_more l.var c.args.pass.now l.pass c.hold_of.new.pass l.least c.hold_of.result c.lesser-least.result l.invariant.0 near
          c.hold_of.ensures.pass k.first k.second
          (lesser_is l.var l.least c.hold_of.result c.lesser-least.result l.invariant.1 c.hold_of.type_inv k.second k.one)
          c.hold_of.ensures.risen,
      λ z. absurd (omega arith),
    )
