use Rattle.std.proofs.Common.{sym, subst}
use Rattle.gl_model.specs.declared.row.Item.{Item}
use Rattle.gl_core.specs.Follows.{IsStepped}
use Rattle.gl_core.proofs.Steps.{stepped_plain, stepped_commit}
use Rattle.gl_core.proofs.detector.Detector.step.Goals as goal

pub returns-in-Access-clause-right : goal.returns-in-Access-clause-right
returns-in-Access-clause-right g c = subst (λ (i : Item). IsStepped c.args.thread i c.access.result c.args.self.now c.access.new.self)
    (sym c.in-Access.is)
    (stepped_plain c.args.thread c.in-Access.var c.in-Access.write c.access.result c.args.self.now.tables c.access.new.self.tables
    c.args.self.now.latests.items c.access.new.self.latests.items c.args.self.now.ended c.access.new.self.ended c.requires.step.0
    c.access.ensures.tables c.access.ensures.ended c.access.ensures.others c.access.ensures.done)

pub returns-in-Commit-clause-right : goal.returns-in-Commit-clause-right
returns-in-Commit-clause-right g c = subst (λ (i : Item). IsStepped c.args.thread i c.commit.result c.args.self.now c.commit.new.self)
    (sym c.in-Commit.is)
    (stepped_commit c.args.thread c.in-Commit.reads c.in-Commit.writes c.commit.result c.args.self.now.tables c.commit.new.self.tables
    c.args.self.now.latests.items c.commit.new.self.latests.items c.args.self.now.ended c.commit.new.self.ended c.requires.step.0
    c.commit.ensures.ended c.commit.ensures.done)
