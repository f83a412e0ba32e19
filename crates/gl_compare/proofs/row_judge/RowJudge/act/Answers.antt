use Rattle.std.proofs.Common.{refl}
use Rattle.gl_compare.proofs.RowSteps.{stepped_act}
use Rattle.gl_compare.proofs.row_judge.RowJudge.act.Goals as goal

pub returns-clause-right : goal.returns-clause-right
returns-clause-right c = stepped_act c.args.thread c.args.act c.args.self.now.events.items c.push_act.new.events.items
    c.args.self.now.rows.items c.args.self.now.rows.items c.args.self.now.ended c.end_joined.new.ended c.joins_ended-over.result
    refl c.joins_ended-over.ensures c.in_ok-push_act.ensures.items c.end_joined.ensures
