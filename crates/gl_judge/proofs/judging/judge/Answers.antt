use Rattle.std.proofs.Common.{refl}
use Rattle.gl_judge.proofs.RowTests.{judged, judged_added, rows_stand}
use Rattle.gl_judge.proofs.judging.judge.Goals as goal

pub returns-then-some_conflict_fails-clause-fails : goal.returns-then-some_conflict_fails-clause-fails
returns-then-some_conflict_fails-clause-fails g c = λ setting h asked stand.
    let k = c.some_conflict_fails.ensures setting h asked stand in
    (λ r. k.0 c.if-some_conflict_fails.true, λ f. refl)

pub returns-else-some_conflict_fails-clause-fails : goal.returns-else-some_conflict_fails-clause-fails
returns-else-some_conflict_fails-clause-fails g c = λ setting h asked stand.
    let k = c.some_conflict_fails.ensures setting h asked stand in
    (λ r. absurd (cc), λ f. let t = k.1 f in let n = c.if-some_conflict_fails.false in absurd (cc))

pub returns-then-some_conflict_fails-clause-racy : goal.returns-then-some_conflict_fails-clause-racy
returns-then-some_conflict_fails-clause-racy g c = λ setting h x ds f asked s a.
    let k = judged setting h x ds c.args.row.now c.args.q.now s f a c.some_conflict_fails.result
    (c.some_conflict_fails.ensures setting h asked (rows_stand setting h x ds c.args.row.now s.stands)) in
    (λ r. k.0 c.if-some_conflict_fails.true, λ r. refl)

pub returns-else-some_conflict_fails-clause-racy : goal.returns-else-some_conflict_fails-clause-racy
returns-else-some_conflict_fails-clause-racy g c = λ setting h x ds f asked s a.
    let k = judged setting h x ds c.args.row.now c.args.q.now s f a c.some_conflict_fails.result
    (c.some_conflict_fails.ensures setting h asked (rows_stand setting h x ds c.args.row.now s.stands)) in
    (λ r. absurd (cc), λ r. let t = k.1 r in let n = c.if-some_conflict_fails.false in absurd (cc))

pub returns-then-some_conflict_fails-clause-record : goal.returns-then-some_conflict_fails-clause-record
returns-then-some_conflict_fails-clause-record g c = λ setting h later x m before after R d f asked s a own added kind.
    let k = judged_added setting h later x m before after R d c.args.row.now c.args.q.now f s a own added kind c.some_conflict_fails.result
    (c.some_conflict_fails.ensures setting h asked (rows_stand setting h x (before x) c.args.row.now s.stands)) in
    (λ r. k.0 c.if-some_conflict_fails.true, λ r. refl)

pub returns-else-some_conflict_fails-clause-record : goal.returns-else-some_conflict_fails-clause-record
returns-else-some_conflict_fails-clause-record g c = λ setting h later x m before after R d f asked s a own added kind.
    let k = judged_added setting h later x m before after R d c.args.row.now c.args.q.now f s a own added kind c.some_conflict_fails.result
    (c.some_conflict_fails.ensures setting h asked (rows_stand setting h x (before x) c.args.row.now s.stands)) in
    (λ r. absurd (cc), λ r. let t = k.1 r in let n = c.if-some_conflict_fails.false in absurd (cc))
