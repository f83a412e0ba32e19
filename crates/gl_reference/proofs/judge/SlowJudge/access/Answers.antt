use Rattle.gl_reference.proofs.Steps.{done_raised, done_performed}
use Rattle.gl_reference.proofs.judge.SlowJudge.access.Goals as goal

pub returns-then-branch-clause-done : goal.returns-then-branch-clause-done
returns-then-branch-clause-done c = done_raised c.args.self.now.events.items c.deref.result.now c.args.self.now.performed.items
    c.deref-2.result.now c.reserve.new.self.items c.args.thread c.args.var c.args.write c.in_ok-is_racy.field-0 c.deref.ensures.value
    c.deref-2.ensures.value c.reserve.ensures.items c.in_ok-is_racy.ensures c.if-branch.true

pub returns-clause-done : goal.returns-clause-done
returns-clause-done c = done_performed c.args.self.now.events.items c.deref.result.now c.args.self.now.performed.items c.deref-2.result.now
    c.reserve.new.self.items c.args.thread c.args.var c.args.write c.in_ok-is_racy.field-0 c.deref.ensures.value c.deref-2.ensures.value
    c.reserve.ensures.items c.in_ok-is_racy.ensures
    c.deref-3.result.now c.last_of.result c.push_reserved.new.self.items c.if-branch.false c.deref-3.ensures.value c.last_of.ensures
    c.push_reserved.ensures.items
