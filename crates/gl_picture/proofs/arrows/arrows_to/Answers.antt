use Rattle.std.proofs.Common.{◌≡◌, ◌+◌, ◌++◌, ◌∷◌, [], ℕ, arith, rules, sym, subst}
use Rattle.gl_picture.specs.Arrows.{IsArrow, Selects, none_yet, one_more, not_one}
use Rattle.gl_picture.proofs.Leading.{false_no}
use Rattle.gl_picture.proofs.arrows.arrows_to.Goals.{then-is_arrow+in_ok-push, else-is_arrow}
use Rattle.gl_picture.proofs.arrows.arrows_to.Goals as goal

pub loop-i-init : goal.loop-i-init
loop-i-init c = subst (Selects (λ i. IsArrow c.args.rows.now i c.args.j) 0) (sym c.new-from.ensures.items) none_yet

pub loop-i-preserved : goal.loop-i-preserved
loop-i-preserved c =
    let P : ℕ → Type 0 = λ i. IsArrow c.args.rows.now i c.args.j in
    elim c.if-is_arrow.branch [
      | then-is_arrow+in_ok-push w ↦
          (let is : c.if-is_arrow.from.items ≡ c.loop-i.from.items ++ c.loop-i.i ∷ [] = search rules in
          subst (Selects P (c.loop-i.i + 1)) (sym is)
          (one_more c.loop-i.i c.loop-i.from.items c.loop-i.invariant (c.is_arrow.ensures.0 w.if-is_arrow.true)))
      | else-is_arrow w ↦
          (let is : c.if-is_arrow.from.items ≡ c.loop-i.from.items = search rules in
          subst (Selects P (c.loop-i.i + 1)) (sym is)
          (not_one c.loop-i.i c.loop-i.from.items c.loop-i.invariant (false_no c.is_arrow.result (P c.loop-i.i) w.if-is_arrow.false
          c.is_arrow.ensures)))
    ]

pub returns : goal.returns
returns c =
    let all : c.loop-i.i ≡ c.args.j = (let n = c.loop-i-test.false in let m = c.loop-i.auto.i-end in omega arith) in
    subst (λ n. Selects (λ i. IsArrow c.args.rows.now i c.args.j) n c.loop-i.from.items) all c.loop-i.invariant
