use Rattle.std.proofs.Common.{◌∙◌}
use Rattle.gl_shortcut.specs.Ordering.{Orders}
use Rattle.gl_judge.specs.Conflicting.{Conflicts}
use Rattle.gl_judge.proofs.Walked.{read_item, each_more, read_within}
use Rattle.gl_judge.proofs.asking.are_clear.Goals as goal

pub returns-then-not-is_clear-clause-sure : goal.returns-then-not-is_clear-clause-sure
returns-then-not-is_clear-clause-sure g c = λ p.
    let item = read_item c.args.reads.now c.loop-read.read-index c.read-item.result c.loop-read-test.true c.read-item.is in
    let k = c.is_clear.ensures.sure (λ i e conf. p c.loop-read.read-index i (item ∙ e) conf) in
    let n = c.if-not-is_clear.true in absurd (cc)

pub loop-read-preserved : goal.loop-read-preserved
loop-read-preserved g c =
    let item = read_item c.args.reads.now c.loop-read.read-index c.read-item.result c.loop-read-test.true c.read-item.is in
    each_more c.args.reads.now c.loop-read.read-index c.read-item.result (λ i. Conflicts i c.args.q.now → Orders i c.args.q.now) item
    c.loop-read.invariant (c.is_clear.ensures.yes c.if-not-is_clear.false)

pub returns-clause-yes : goal.returns-clause-yes
returns-clause-yes g c = λ k t i e. c.loop-read.invariant t i
    (read_within c.args.reads.now t c.loop-read.read-index i c.loop-read-test.false e) e
