use Rattle.std.proofs.Common.{◌≡◌, ◌≤◌, ℕ, None, Option, Bool, List, false, length, map, replicate, sym, ap, subst, ◌∙◌, arith}
use Rattle.std.specs.List.{All}
use Rattle.std.proofs.lemmas.List.{length-replicate}
use Rattle.std.proofs.lemmas.List.Elements.{All-replicate}
use Rattle.gl_model.specs.declared.limits.TheConstants.{VARIABLES}
use Rattle.gl_table.specs.RightsInside.{right_in}
use Rattle.gl_table.specs.RightsView.{RightsView}
use Rattle.gl_table.specs.declared.rights.Right.{Right}
use Rattle.gl_table.proofs.RightsKept.{none_begun}
use Rattle.gl_table.proofs.rights.Rights.none.Goals as goal

pub returns : goal.returns
returns c =
    let i = c.loop.invariant in
    let test = c.loop-test.false in
    let end = c.loop.auto.counter-end in
    let n : c.loop.counter ≡ 1024 = omega arith in
    let first : Right = record { block = 0; nth = 0; write = false } in
    let all : All (λ (p : Right). p.block ≤ 0) c.loop.places.items =
    subst (All (λ (p : Right). p.block ≤ 0)) (sym i.0) (All-replicate (λ (p : Right). p.block ≤ 0) c.loop.counter first (omega arith)) in
    let long : length c.loop.places.items ≡ 1024 = ap length i.0 ∙ length-replicate c.loop.counter first ∙ n in
    let none : map (right_in 1) c.loop.places.items
    ≡ replicate {A = Option (ℕ × Bool)} VARIABLES None = none_begun 0 c.loop.places.items all
    ∙ ap (λ k. replicate {A = Option (ℕ × Bool)} k None) long in
    ap (λ (l : List (Option (ℕ × Bool))). let r : RightsView = record { rights = l; block = 1 } in r) none
