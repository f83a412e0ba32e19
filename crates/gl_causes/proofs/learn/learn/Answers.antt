use Rattle.std.proofs.Common.{◌≡◌, ◌≤◌, ◌∙◌, ap, sym, arith, length, map, inl, inr, Some, true, false}
use Rattle.std.specs.Prelude.{slice_get}
use Rattle.std.proofs.lemmas.List.{length-map}
use Rattle.gl_causes.specs.Learning.{commits_before}
use Rattle.gl_causes.specs.Stands.{Stand, stand_seen}
use Rattle.gl_causes.proofs.Walks.{at_seen, learned_all, learned_kept, learned_more}
use Rattle.gl_causes.proofs.learn.learn.Goals as goal
use Rattle.gl_causes.proofs.learn.learn.Goals.{then-commits_before, else-commits_before}

pub loop-place-init : goal.loop-place-init
loop-place-init c = λ u n. (λ l. inl l, λ e. elim e [ inl b ↦ b | inr w ↦ absurd (let z = w.1.1 in omega arith) ])

pub handed_on-requires : goal.handed_on-requires
handed_on-requires c =
    let stands = c.args.stands.now in
    let i = c.loop-place.place-index in
    let here : slice_get (map stand_seen stands) i ≡ Some (stand_seen c.loop-place-item.result) =
    at_seen stand_seen stands i c.loop-place-item.result c.loop-place-test.true
    ∙ ap (λ x. Some (stand_seen x)) (sym c.loop-place-item.is) in
    c.requires i (stand_seen c.loop-place-item.result) here

pub loop-place-preserved : goal.loop-place-preserved
loop-place-preserved c =
    let stands = c.args.stands.now in
    let rows = c.args.rows.now in
    let later = c.args.later.now in
    let i = c.loop-place.place-index in
    let s : Stand = stand_seen c.loop-place-item.result in
    let here : slice_get (map stand_seen stands) i ≡ Some (stand_seen c.loop-place-item.result) =
    at_seen stand_seen stands i c.loop-place-item.result c.loop-place-test.true
    ∙ ap (λ x. Some (stand_seen x)) (sym c.loop-place-item.is) in
    elim c.if-commits_before.branch [
      | then-commits_before w ↦ (let is : commits_before later s.entry ≡ true = sym c.commits_before.ensures ∙ w.if-commits_before.true in
          rw w.known-is (learned_more rows (map stand_seen stands) later i s here c.loop-place.known w.join.new.into w.handed_on.result
          c.args.known.now is w.join.ensures w.handed_on.ensures c.loop-place.invariant))
      | else-commits_before w ↦ (let is : commits_before later s.entry ≡ false = sym c.commits_before.ensures ∙ w.if-commits_before.false in
          rw w.known-is (learned_kept rows (map stand_seen stands) later i s here c.loop-place.known c.args.known.now is
          c.loop-place.invariant))
    ]

pub returns : goal.returns
returns c =
    let stands = c.args.stands.now in
    let i = c.loop-place.place-index in
    let long : length (map stand_seen stands) ≤ i =
    (let n = length-map stands stand_seen in let a = c.loop-place-test.false in omega arith) in
    learned_all c.args.rows.now (map stand_seen stands) c.args.later.now i long c.loop-place.known c.args.known.now c.loop-place.invariant
