use Rattle.std.proofs.Common.{◌∙◌, sym, refl}
use Rattle.gl_reference.proofs.Steps.{stepped_act}
use Rattle.gl_reference.proofs.judge.SlowJudge.act.Goals as goal

pub returns-clause-right : goal.returns-clause-right
returns-clause-right c = stepped_act c.args.thread c.args.act c.args.self.now.events.items c.push_act.new.events.items
    c.args.self.now.performed.items c.args.self.now.performed.items c.args.self.now.ended c.end_joined.new.ended c.joins_ended-over.result
    refl c.joins_ended-over.ensures (λ s same joins. c.push_act.ensures s (same ∙ sym c.reserve.ensures.items) joins) c.end_joined.ensures
