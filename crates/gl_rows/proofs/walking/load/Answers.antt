use Rattle.std.proofs.Common.{◌≡◌, ◌+◌, ◌<◌, ◌≤◌, ◌∷◌, [], List, length, sym, ap, subst, rules, arith, ◌∙◌, length-append, inl, inr}
use Rattle.std.specs.List.{All}
use Rattle.std.proofs.lemmas.Bool.{cases_lt}
use Rattle.std.proofs.lemmas.List.Elements.{All-push}
use Rattle.gl_model.specs.declared.event.Stamp.{Stamp}
use Rattle.gl_model.specs.Elements.{IsStampInRange}
use Rattle.gl_rule.specs.Fitting.{MayWalk}
use Rattle.gl_table.specs.PassView.{PassView, view_of}
use Rattle.gl_rows.specs.Walks.{KnowsFrom}
use Rattle.gl_rows.proofs.Windows.{knows_none, knows_next}
use Rattle.gl_rows.proofs.walking.load.Goals as goal

pub keep-requires-clause-may : goal.keep-requires-clause-may
keep-requires-clause-may c =
    let inv = c.loop-pos.invariant in
    let at = inv.1 in
    let near = c.loop-pos-test.true in
    let within = c.requires.to in
    let below : c.loop-pos.pos < c.args.pass.now.seen = omega arith in
    let le : c.args.from ≤ c.loop-pos.pos = omega arith in
    subst (λ (p : PassView). (c.loop-pos.pos < p.seen) × MayWalk (view_of p) c.loop-pos.pos) (sym inv.0)
    (below, c.requires.named c.loop-pos.pos le near)

-- nothing was loaded yet
pub loop-pos-init : goal.loop-pos-init
loop-pos-init c = (
  subst (λ (xs : List Stamp). KnowsFrom c.args.from xs c.args.pass.now c.args.pass.now) (sym c.clear.ensures.items)
      (knows_none c.args.from c.args.pass.now),
  omega (arith, ap length c.clear.ensures.items),
  search rules,
  c.clear.ensures.capacity,
  λ lt. absurd (omega arith),
)

-- where one event more was kept, the pass knows the events of the window with that one
pub loop-pos-preserved : goal.loop-pos-preserved
loop-pos-preserved c =
    let inv = c.loop-pos.invariant in
    let k = c.keep.ensures.known in
    let more : length c.keep.new.window.items ≡ length c.loop-pos.window.items + 1 = ap length k.2
    ∙ length-append c.loop-pos.window.items (k.0 ∷ []) in (
      subst (λ (xs : List Stamp). KnowsFrom c.args.from xs c.args.pass.now c.keep.new.pass) (sym k.2)
          (knows_next c.args.from c.loop-pos.pos c.loop-pos.window.items k.0 c.args.pass.now c.loop-pos.pass c.keep.new.pass inv.1 inv.0
          c.keep.ensures.pass k.1),
      (let at = inv.1 in omega arith),
      subst (All IsStampInRange) (sym k.2) (All-push IsStampInRange c.loop-pos.window.items k.0 inv.2 k.3),
      c.keep.ensures.room ∙ inv.3,
      λ lt. elim (cases_lt c.args.from c.loop-pos.pos) [
        | inl before ↦ inv.4 before
        | inr first ↦ (let near = c.keep.ensures.ring in let same = ap (λ (p : PassView). p.seen) inv.0 in let from = c.loop-pos.auto.pos
            in omega arith)
      ],
    )
