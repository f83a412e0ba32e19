use Rattle.gl_draws.specs.RowFacts.{Fails}
use Rattle.gl_judge.proofs.Walked.{kept_one}
use Rattle.gl_judge.proofs.judging.kept_fails.Goals as goal

pub returns-in-Some : goal.returns-in-Some
returns-in-Some g c = λ setting h write asked stands.
    let s = stands c.in-Some.info c.in-Some.is in
    kept_one c.args.kept.now c.in-Some.info (λ i. Fails h i c.args.q.now.thread c.args.q.now.commit) c.fails.result c.in-Some.is
    (c.fails.ensures setting h s.0 write asked s.1)
