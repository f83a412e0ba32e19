use Rattle.std.proofs.Common.{inl, inr}
use Rattle.gl_shortcut.proofs.cuts.Cuts.ask_late.Goals as goal

pub returns-then-says_late-clause-asked : goal.returns-then-says_late-clause-asked
returns-then-says_late-clause-asked g c = λ t. let k = c.says_late.ensures.asked c.if-says_late.true in (k.0, inl k.1, k.2)

pub returns-then-says_late-2-clause-asked : goal.returns-then-says_late-2-clause-asked
returns-then-says_late-2-clause-asked g c = λ t. let k = c.says_late-2.ensures.asked c.if-says_late-2.true in (k.0, inr (inl k.1), k.2)

pub returns-then-says_late-3-clause-asked : goal.returns-then-says_late-3-clause-asked
returns-then-says_late-3-clause-asked g c = λ t. let k = c.says_late-3.ensures.asked c.if-says_late-3.true
    in (k.0, inr (inr (inl k.1)), k.2)

pub returns-clause-asked : goal.returns-clause-asked
returns-clause-asked g c = λ t. let k = c.says_late-4.ensures.asked t in (k.0, inr (inr (inr k.1)), k.2)
