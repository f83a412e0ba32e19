use Rattle.std.proofs.Common.{refl}
use Rattle.gl_table.proofs.Passes.{pass_steps}
use Rattle.gl_table.proofs.walking.see_event.Goals as goal

pub invariant_of-pass : goal.invariant_of-pass
invariant_of-pass c = let p = c.pass.invariant.pass
    in record {
      pass = pass_steps _ _ _ _ _ _ p _ _ _ _ _ refl refl p.quiets p.unstored p.out c.load_event.ensures.saw.5;
      room = c.pass.invariant.room;
    }
