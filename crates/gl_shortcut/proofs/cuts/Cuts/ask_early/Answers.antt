use Rattle.std.proofs.Common.{inl, inr}
use Rattle.gl_shortcut.proofs.cuts.Cuts.ask_early.Goals as goal

pub returns-then-says_early-clause-asked : goal.returns-then-says_early-clause-asked
returns-then-says_early-clause-asked g c = λ t. let k = c.says_early.ensures.asked c.if-says_early.true in (k.0, inl k.1, k.2)

pub returns-then-says_early-2-clause-asked : goal.returns-then-says_early-2-clause-asked
returns-then-says_early-2-clause-asked g c = λ t. let k = c.says_early-2.ensures.asked c.if-says_early-2.true in (k.0, inr (inl k.1), k.2)

pub returns-then-says_early-3-clause-asked : goal.returns-then-says_early-3-clause-asked
returns-then-says_early-3-clause-asked g c = λ t. let k = c.says_early-3.ensures.asked c.if-says_early-3.true
    in (k.0, inr (inr (inl k.1)), k.2)

pub returns-clause-asked : goal.returns-clause-asked
returns-clause-asked g c = λ t. let k = c.says_early-4.ensures.asked t in (k.0, inr (inr (inr k.1)), k.2)
