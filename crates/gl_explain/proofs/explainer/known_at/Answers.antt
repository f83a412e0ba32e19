use Rattle.gl_explain.proofs.explainer.known_at.Goals as goal

pub returns-in-Act : goal.returns-in-Act
returns-in-Act c = λ lines follows narrow u. rw c.in-Act.is (c.known.ensures lines follows u)

pub returns-in-Access : goal.returns-in-Access
returns-in-Access c = λ lines follows narrow u. rw c.in-Access.is (c.known-in-Access.ensures lines follows u)
