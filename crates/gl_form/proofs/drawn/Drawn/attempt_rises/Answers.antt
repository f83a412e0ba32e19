use Rattle.gl_form.proofs.Attempts.{attempt_goes_on, look_fails}
use Rattle.gl_form.proofs.drawn.Drawn.attempt_rises.Goals as goal

pub returns-then-looks_rise : goal.returns-then-looks_rise
returns-then-looks_rise c =
    attempt_goes_on c.args.tx.now c.keeps.ensures c.args.self.now.last.items c.looks_rise.new.self.last.items c.if-looks_rise.ensures
    c.numbers_rise.new.self.last.items c.numbers_rise.result
    c.numbers_rise.ensures

pub returns-else-looks_rise : goal.returns-else-looks_rise
returns-else-looks_rise c =
    λ after. rw c.if-looks_rise.false (look_fails c.args.tx.now c.keeps.ensures c.args.self.now.last.items c.if-looks_rise.ensures)
