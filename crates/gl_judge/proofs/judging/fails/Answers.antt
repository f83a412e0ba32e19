use Rattle.gl_judge.proofs.Walked.{passes_before, walked, says_ordered, rest_of}
use Rattle.gl_model.specs.Lockset.{Has}
use Rattle.gl_judge.proofs.judging.fails.Goals as goal

pub returns-then-says_early : goal.returns-then-says_early
returns-then-says_early g c = λ setting h a write asked stands.
    says_ordered setting h c.args.info.now a write stands c.args.q.now asked.1
    (c.says_early.ensures.yes c.if-says_early.true setting h a write stands asked.1)

pub returns-then-passes : goal.returns-then-passes
returns-then-passes g c = λ setting h a write asked stands. passes_before h c.args.info.now c.args.q.now.thread c.args.q.now.commit
    c.passes.result c.passes.ensures c.if-passes.true

pub returns-then-says_late : goal.returns-then-says_late
returns-then-says_late g c = λ setting h a write asked stands.
    let at = rest_of h c.args.window.now c.args.from c.args.info.now.pos c.requires.within.0 asked.0 in
    says_ordered setting h c.args.info.now a write stands c.args.q.now asked.1
    (c.says_late.ensures c.if-says_late.true setting h at a write stands asked.1)

pub returns : goal.returns
returns g c = λ setting h a write asked stands. walked h c.args.window.now c.args.info.now (Has c.walk-set.result) c.args.q.now.thread
    c.args.from c.args.q.now.commit c.passes-2.result c.requires.within.0 asked.0 c.walk-set.ensures c.passes-2.ensures
