use Rattle.std.proofs.Common.{ℕ, arith}
use Rattle.gl_explain.specs.Races.{IsPassed}
use Rattle.gl_explain.proofs.Counting.{last_new, last_on, last_all, known_at}
use Rattle.gl_explain.proofs.Behind.{passed_no, passed_near}
use Rattle.gl_explain.proofs.past.last_passed.Goals.{then-is_passed, else-is_passed}
use Rattle.gl_explain.proofs.past.last_passed.Goals as goal

pub loop-i-preserved : goal.loop-i-preserved
loop-i-preserved c =
    let kept = c.args.kept.now in
    let P : ℕ → Type 0 = λ i. IsPassed kept c.args.thread c.args.known i in
    let there = known_at kept c.loop-i.i c.index-kept-i.result c.loop-i-test.true c.index-kept-i.is in
    elim c.if-is_passed.branch [
      | then-is_passed w ↦
          (let p : P c.loop-i.i = (c.index-kept-i.result, there, c.is_passed.ensures.0 w.if-is_passed.true)
          in rw w.place-is (last_new P c.loop-i.i p))
      | else-is_passed w ↦
          (let never = passed_no kept c.args.thread c.args.known c.loop-i.i c.index-kept-i.result there c.is_passed.result
          c.is_passed.ensures w.if-is_passed.false in
          rw w.place-is (last_on P c.loop-i.i c.loop-i.place never c.loop-i.invariant))
    ]

pub returns : goal.returns
returns c =
    let kept = c.args.kept.now in
    let P : ℕ → Type 0 = λ i. IsPassed kept c.args.thread c.args.known i in
    last_all P c.loop-i.i c.loop-i.place (λ i p. let near = passed_near kept c.args.thread c.args.known i p
    in let far = c.loop-i-test.false in omega arith) c.loop-i.invariant
