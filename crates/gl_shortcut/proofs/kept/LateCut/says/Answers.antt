use Rattle.gl_shortcut.proofs.kept.LateCut.says.Goals as goal

pub returns-clause-yes : goal.returns-clause-yes
returns-clause-yes g c = λ t. c.args.self.now.fact.yes c.args.info c.args.q c.args.window c.requires.range c.requires.stamps
    (rw t at c.ask.ensures.0)
