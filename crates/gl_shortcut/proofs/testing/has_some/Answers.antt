use Rattle.gl_model.specs.Lockset.{Has}
use Rattle.gl_model.proofs.Variables.{found, found_none}
use Rattle.gl_shortcut.proofs.testing.has_some.Goals as goal

pub returns-then-has : goal.returns-then-has
returns-then-has c = found (Has c.args.set.now) c.args.variables.now c.ids-x-items.result.now c.loop-x.x-index c.ids-x-items.ensures.same
    c.loop-x-test.true (c.has.ensures.0 c.if-has.true)

pub returns : goal.returns
returns c = found_none (Has c.args.set.now) c.args.variables.now c.ids-x-items.result.now c.loop-x.x-index c.ids-x-items.ensures.same
    c.loop-x-test.false c.loop-x.invariant
