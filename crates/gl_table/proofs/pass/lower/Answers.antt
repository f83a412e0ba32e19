use Rattle.std.proofs.Common.{arith, true, false, refl}
use Rattle.std.proofs.lemmas.Bool.{lt-ltb}
use Rattle.gl_table.proofs.Passes.{pass_lowers, not_less}
use Rattle.gl_table.proofs.pass.lower.Goals as goal

pub invariant_of-pass : goal.invariant_of-pass
invariant_of-pass c =
    let more = c.push.ensures.entries in
    record {
      pass = pass_lowers _ _ _ _ _ _ c.pass.invariant.pass c.raise_first-before.result c.args.to _ _ true
          (lt-ltb _ _ c.if-before-to.true) c.raise_first-before.ensures.lowered more;
      room = c.pass.invariant.room;
    }

pub invariant_of-pass-else-before-to : goal.invariant_of-pass-else-before-to
invariant_of-pass-else-before-to c = record {
  pass =
      pass_lowers _ _ _ _ _ _ c.pass.invariant.pass c.raise_first-before.result c.args.to _ _ false
      (not_less _ _ (let le = c.if-before-to.false in λ lt. omega arith)) c.raise_first-before.ensures.lowered refl;
  room = c.pass.invariant.room;
}
