use Rattle.std.proofs.Common.{sym}
use Rattle.gl_events.proofs.HoldsLoaded.{may_trim, segment_below}
use Rattle.gl_events.proofs.settling.settle.Goals as goal

pub raise_low-requires-clause-may : goal.raise_low-requires-clause-may
raise_low-requires-clause-may c =
    may_trim c.args.shared.now.key c.args.pass.now c.load_holds-least.new.pass c.load_holds-least.result c.segment_of.result
    c.load_holds-least.ensures
    (segment_below c.load_holds-least.result c.args.shared.now.key.cells c.ring.result.cells c.segment_of.result (sym c.ring.ensures.is.1)
    c.segment_of.ensures) c.requires.may.goes_on
