use Rattle.std.proofs.Common.{◌≡◌, length, rules}
use Rattle.gl_compare.specs.Rows.{row_of}
use Rattle.gl_compare.proofs.Asking.{lent_held, plain_raised, plain_performed}
use Rattle.gl_compare.proofs.row_judge.RowJudge.access.Goals as goal

pub returns-then-races-clause-done : goal.returns-then-races-clause-done
returns-then-races-clause-done c = (
  c.held.result,
  lent_held c.args.self.now.events.items c.deref.result.now c.args.thread c.held.result c.deref.ensures.value c.held.ensures,
  plain_raised c.args.self.now.events.items c.deref-3.result.now c.args.self.now.rows.items c.deref-2.result.now c.args.thread c.args.var
      c.args.write c.held.result c.plain-q.result c.races.result c.deref-3.ensures.value c.deref-2.ensures.value c.plain-q.ensures
      c.races.ensures c.if-races.true,
)

pub returns-clause-done : goal.returns-clause-done
returns-clause-done c =
    let at : c.len.result ≡ length c.args.self.now.events.items = search rules in (
      c.held.result,
      lent_held c.args.self.now.events.items c.deref.result.now c.args.thread c.held.result c.deref.ensures.value c.held.ensures,
      plain_performed c.args.self.now.events.items c.deref-3.result.now c.args.self.now.rows.items c.deref-2.result.now c.args.thread
          c.args.var c.args.write c.held.result c.plain-q.result c.races.result c.deref-3.ensures.value c.deref-2.ensures.value
          c.plain-q.ensures c.races.ensures c.if-races.false c.len.result (row_of c.note_in.new.rows.items c.args.var) at
          c.in_ok-note_in.ensures.noted,
    )
