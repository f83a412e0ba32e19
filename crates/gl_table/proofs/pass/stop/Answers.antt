use Rattle.gl_table.proofs.Passes.{pass_saw}
use Rattle.gl_table.proofs.pass.stop.Goals as goal

pub invariant_of-pass : goal.invariant_of-pass
invariant_of-pass c = record { pass = pass_saw _ _ _ _ _ _ c.pass.invariant.pass _ _ c.set_word.ensures.saw; room = c.pass.invariant.room }
