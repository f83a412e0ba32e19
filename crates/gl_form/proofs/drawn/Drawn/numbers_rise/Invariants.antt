use Rattle.gl_form.specs.Passed.{AreDrawn}
use Rattle.gl_form.proofs.drawn.Drawn.numbers_rise.Given as goal

abbrev pub invariant-loop-i : goal.invariant-loop-i
invariant-loop-i l = AreDrawn (λ a. a.var) (λ a. a.nth) l.numbers l.i l.fn.self.last.items l.self.last.items
