use Rattle.std.proofs.Common.{refl}
use Rattle.gl_core.proofs.Steps.{stepped_act}
use Rattle.gl_core.proofs.detector.Detector.act.Goals as goal

pub returns-clause-right : goal.returns-clause-right
returns-clause-right c = stepped_act c.args.thread c.args.act c.args.self.now.tables c.take_line.new.self c.args.self.now.latests.items
    c.args.self.now.latests.items c.args.self.now.ended c.end_joined.new.ended c.joins_ended-over.result refl c.joins_ended-over.ensures
    c.take_line.ensures.clocks c.end_joined.ensures
