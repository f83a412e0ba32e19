use Rattle.std.proofs.Common.{◌≡◌, ◌≤◌, length, None, rules}
use Rattle.gl_compare.proofs.Asking.{lent_held, commit_refused, commit_performed}
use Rattle.gl_compare.proofs.Within.{rows_more}
use Rattle.gl_compare.proofs.row_judge.RowJudge.commit.Goals as goal

pub returns-clause-ready : goal.returns-clause-ready
returns-clause-ready c =
    let at : c.len.result ≤ length c.push.new.events.items = search rules in (
      c.in_ok-push.ensures.range.0,
      c.in_ok-note_each.ensures.within (length c.push.new.events.items) at
          (rows_more (length c.args.self.now.events.items) (length c.push.new.events.items) c.args.self.now.rows.items
          c.in_ok-push.ensures.range.1 c.requires.ready.1),
    )

pub returns-in-Some-clause-done : goal.returns-in-Some-clause-done
returns-in-Some-clause-done c = (
  c.held.result,
  c.all_of-variables.result,
  lent_held c.args.self.now.events.items c.deref.result.now c.args.thread c.held.result c.deref.ensures.value c.held.ensures,
  c.keeps.ensures.1,
  c.all_of-variables.ensures,
  commit_refused c.args.self.now.events.items c.deref-3.result.now c.args.self.now.rows.items c.deref-2.result.now c.args.thread
      c.all_of-variables.result c.args.writes.now c.held.result c.commit_on-commit.result c.first_race.result c.deref-3.ensures.value
      c.deref-2.ensures.value c.commit_on-commit.ensures c.first_race.ensures c.in-Some.var c.in-Some.is,
)

pub returns-clause-done : goal.returns-clause-done
returns-clause-done c =
    let none : c.first_race.result ≡ None = search rules in
    let at : c.len.result ≡ length c.push.new.events.items = search rules in (
      c.held.result,
      c.all_of-variables.result,
      lent_held c.args.self.now.events.items c.deref.result.now c.args.thread c.held.result c.deref.ensures.value c.held.ensures,
      c.keeps.ensures.1,
      c.all_of-variables.ensures,
      commit_performed c.args.self.now.events.items c.deref-3.result.now c.args.self.now.rows.items c.deref-2.result.now c.args.thread
          c.all_of-variables.result c.args.writes.now c.held.result c.commit_on-commit.result c.first_race.result c.deref-3.ensures.value
          c.deref-2.ensures.value c.commit_on-commit.ensures c.first_race.ensures none c.push.new.events.items c.len.result
          c.note_each.new.rows.items c.in_ok-push.ensures.items at c.in_ok-note_each.ensures.noted,
    )
