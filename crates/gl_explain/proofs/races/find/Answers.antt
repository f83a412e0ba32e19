use Rattle.std.proofs.Common.{ℕ, arith}
use Rattle.gl_explain.specs.Races.{IsUnknown, none_yet, one_more, not_one}
use Rattle.gl_explain.proofs.Counting.{last_new, last_on, last_all, known_at, unknown_no, unknown_near}
use Rattle.gl_explain.proofs.races.find.Goals.{then-is_unknown, else-is_unknown}
use Rattle.gl_explain.proofs.races.find.Goals as goal

pub loop-i-init : goal.loop-i-init
loop-i-init c = record { last = λ i near p. omega arith; count = none_yet; few = omega arith }

pub loop-i-preserved : goal.loop-i-preserved
loop-i-preserved c =
    let kept = c.args.kept.now in
    let P : ℕ → Type 0 = λ i. IsUnknown kept c.args.next.now c.args.var c.args.known.now i in
    let there = known_at kept c.loop-i.i c.index-kept-i.result c.loop-i-test.true c.index-kept-i.is in
    let before = c.loop-i.invariant in
    elim c.if-is_unknown.branch [
      | then-is_unknown w ↦
          (let p : P c.loop-i.i = (c.index-kept-i.result, there, c.is_unknown.ensures.0 w.if-is_unknown.true) in
          record {
            last = rw w.place-is (last_new P c.loop-i.i p);
            count = rw w.count-is (one_more c.loop-i.i c.loop-i.count before.count p);
            few = rw w.count-is (let f = before.few in omega arith);
          })
      | else-is_unknown w ↦
          (let never = unknown_no kept c.args.next.now c.args.var c.args.known.now c.loop-i.i c.index-kept-i.result there
          c.is_unknown.result c.is_unknown.ensures w.if-is_unknown.false in
          record {
            last = rw w.place-is (last_on P c.loop-i.i c.loop-i.place never before.last);
            count = rw w.count-is (not_one c.loop-i.i c.loop-i.count before.count never);
            few = rw w.count-is (let f = before.few in omega arith);
          })
    ]

pub returns-clause-last : goal.returns-clause-last
returns-clause-last c =
    let kept = c.args.kept.now in
    let P : ℕ → Type 0 = λ i. IsUnknown kept c.args.next.now c.args.var c.args.known.now i in
    last_all P c.loop-i.i c.loop-i.place (λ i p. let near = unknown_near kept c.args.next.now c.args.var c.args.known.now i p
    in let far = c.loop-i-test.false in omega arith) c.loop-i.invariant.last
