use Rattle.std.proofs.Common.{◌≡◌, length, None, rules}
use Rattle.gl_reference.proofs.Steps.{done_refused, done_committed}
use Rattle.gl_reference.proofs.judge.SlowJudge.commit.Goals as goal

pub returns-in-Some-clause-done : goal.returns-in-Some-clause-done
returns-in-Some-clause-done c = (
  c.all_of-variables.result,
  c.keeps.ensures.1,
  c.all_of-variables.ensures,
  done_refused c.args.self.now.events.items c.deref.result.now c.reserve.new.self.items c.args.self.now.performed.items
      c.deref-2.result.now c.reserve-2.new.self.items c.args.thread c.all_of-variables.result c.args.writes.now c.in_ok-var.field-0
      c.deref.ensures.value c.reserve.ensures.items c.deref-2.ensures.value c.reserve-2.ensures.items c.in_ok-var.ensures c.in-Some.var
      c.in-Some.is,
)

pub returns-clause-done : goal.returns-clause-done
returns-clause-done c =
    let none : c.in_ok-var.field-0 ≡ None = search rules in
    let at : c.len-block.result ≡ length c.reserve.new.self.items = search rules in (
      c.all_of-variables.result,
      c.keeps.ensures.1,
      c.all_of-variables.ensures,
      done_committed c.args.self.now.events.items c.deref.result.now c.reserve.new.self.items c.args.self.now.performed.items
          c.deref-2.result.now c.reserve-2.new.self.items c.args.thread c.all_of-variables.result c.args.writes.now c.in_ok-var.field-0
          c.deref.ensures.value c.reserve.ensures.items c.deref-2.ensures.value c.reserve-2.ensures.items c.in_ok-var.ensures
          c.push_reserved.new.self.items c.len-block.result c.keep_each.new.performed.items none c.push_reserved.ensures.items at
          c.keep_each.ensures,
    )
