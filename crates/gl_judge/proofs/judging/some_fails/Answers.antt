use Rattle.std.proofs.Common.{◌∙◌, arith, refl, false}
use Rattle.gl_judge.proofs.Walked.{read_item, none_fails, each_more}
use Rattle.gl_draws.specs.RowFacts.{Fails}
use Rattle.gl_judge.proofs.judging.some_fails.Goals as goal

pub kept_fails-requires-clause-within : goal.kept_fails-requires-clause-within
kept_fails-requires-clause-within g c = λ i e. c.requires.within c.loop-read.read-index i
    (read_item c.args.reads.now c.loop-read.read-index c.read-item.result c.loop-read-test.true c.read-item.is ∙ e)

pub returns-then-kept_fails : goal.returns-then-kept_fails
returns-then-kept_fails g c = λ setting h asked stand.
    let item = read_item c.args.reads.now c.loop-read.read-index c.read-item.result c.loop-read-test.true c.read-item.is in
    let w = (c.kept_fails.ensures setting h false asked (λ i e. stand c.loop-read.read-index i (item ∙ e))).0 c.if-kept_fails.true in
    (λ t. (c.loop-read.read-index, w.0, item ∙ w.1, w.2), λ f. refl)

pub loop-read-init : goal.loop-read-init
loop-read-init g c = λ setting h asked stand t i n. absurd (omega (arith, n))

pub loop-read-preserved : goal.loop-read-preserved
loop-read-preserved g c = λ setting h asked stand.
    let item = read_item c.args.reads.now c.loop-read.read-index c.read-item.result c.loop-read-test.true c.read-item.is in
    let k = c.kept_fails.ensures setting h false asked (λ i e. stand c.loop-read.read-index i (item ∙ e)) in
    each_more c.args.reads.now c.loop-read.read-index c.read-item.result (λ i. Fails h i c.args.q.now.thread c.args.q.now.commit → ⊥) item
    (c.loop-read.invariant setting h asked stand)
    (λ i e fails. let t = k.1 (i, e, fails) in let n = c.if-kept_fails.false in absurd (cc))

pub returns : goal.returns
returns g c = λ setting h asked stand. none_fails c.args.reads.now c.loop-read.read-index
    (λ i. Fails h i c.args.q.now.thread c.args.q.now.commit) c.loop-read-test.false (c.loop-read.invariant setting h asked stand)
