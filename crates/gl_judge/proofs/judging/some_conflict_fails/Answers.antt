use Rattle.std.proofs.Common.{refl, inl, inr, true}
use Rattle.gl_judge.proofs.judging.some_conflict_fails.Goals as goal

pub returns-then-kept_fails : goal.returns-then-kept_fails
returns-then-kept_fails g c = λ setting h asked stand. let k = c.kept_fails.ensures setting h true asked stand.last_write
    in (λ t. inl (k.0 c.if-kept_fails.true), λ f. refl)

pub returns-then-q : goal.returns-then-q
returns-then-q g c = λ setting h asked stand.
    let k = c.kept_fails.ensures setting h true asked stand.last_write in
    let s = c.some_fails.ensures setting h asked stand.reads in
    (λ t. inr (c.if-q.true, s.0 t), λ f. elim f [ inl w ↦ absurd (let t = k.1 w in let n = c.if-kept_fails.false in cc) | inr w ↦ s.1 w.1 ])

pub returns-else-q : goal.returns-else-q
returns-else-q g c = λ setting h asked stand.
    let k = c.kept_fails.ensures setting h true asked stand.last_write in (
      λ t. absurd (let n = c.if-q.false in cc),
      λ f. elim f [
        | inl w ↦ absurd (let t = k.1 w in let n = c.if-kept_fails.false in cc)
        | inr w ↦ w.0
      ],
    )
