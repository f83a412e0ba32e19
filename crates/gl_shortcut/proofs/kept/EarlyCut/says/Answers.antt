use Rattle.gl_shortcut.proofs.kept.EarlyCut.says.Goals as goal

pub returns-clause-yes : goal.returns-clause-yes
returns-clause-yes g c = λ t. c.args.self.now.fact.yes c.args.info c.args.q c.requires.range (rw t at c.ask.ensures.0)
