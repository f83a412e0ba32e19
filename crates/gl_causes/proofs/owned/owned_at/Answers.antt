use Rattle.std.proofs.Common.{rules, ◌≡◌, ◌+◌, ◌++◌, ◌∷◌, [], ◌∙◌, ap, arith, length, map, sym, subst, take}
use Rattle.std.specs.Prelude.{min, unwrap_or}
use Rattle.std.proofs.lemmas.List.{length-map}
use Rattle.gl_model.specs.Entries.{seen}
use Rattle.gl_model.specs.Lists.{lists_of}
use Rattle.gl_model.specs.declared.limits.TheConstants.{MONITORS}
use Rattle.gl_causes.specs.Owned.{AreDepths, AreOwned}
use Rattle.gl_raised.proofs.Kept.{list_kept}
use Rattle.gl_causes.proofs.Owning.{AreOwnedBelow, all_owned, not_owned, one_owned}
use Rattle.gl_causes.proofs.owned.owned_at.Goals as goal
use Rattle.gl_causes.proofs.owned.owned_at.Goals.{then-is_owned+in_ok-push, else-is_owned}

pub depths_after-depths-requires-clause-kept : goal.depths_after-depths-requires-clause-kept
depths_after-depths-requires-clause-kept c =
    (list_kept c.args.made.now c.keeps.ensures.1 c.args.place.thread (map seen c.in-Some.list.now) c.in-Some.ensures).1

pub loop-m-preserved : goal.loop-m-preserved
loop-m-preserved c =
    let depths = c.depths_after-depths.result in
    elim c.if-is_owned.branch [
      | then-is_owned+in_ok-push w ↦
          (let is : c.if-is_owned.monitors.items ≡ c.loop-m.monitors.items ++ c.loop-m.m ∷ [] = search rules in
          subst (AreOwnedBelow depths (c.loop-m.m + 1)) (sym is)
          (one_owned depths c.loop-m.m c.loop-m.monitors.items (sym c.is_owned.ensures ∙ w.if-is_owned.true) c.loop-m.invariant))
      | else-is_owned w ↦
          (let is : c.if-is_owned.monitors.items ≡ c.loop-m.monitors.items = search rules in
          subst (AreOwnedBelow depths (c.loop-m.m + 1)) (sym is)
          (not_owned depths c.loop-m.m c.loop-m.monitors.items (sym c.is_owned.ensures ∙ w.if-is_owned.false) c.loop-m.invariant))
    ]

pub returns : goal.returns
returns c =
    let es = map seen c.in-Some.list.now in
    let n = c.args.place.index in
    let all : c.loop-m.m ≡ MONITORS = (let k = c.loop-m-test.false in let m = c.loop-m.auto.m-end in omega arith) in
    let count : c.min-count.result ≡ min (length c.in-Some.list.now) n = search rules in
    let count' : c.min-count.result ≡ min (length es) n = count ∙ ap (λ k. min k n) (sym (length-map c.in-Some.list.now seen)) in
    let are : AreDepths (take (min (length es) n) es) c.depths_after-depths.result =
    subst (λ k. AreDepths (take k es) c.depths_after-depths.result) count' c.depths_after-depths.ensures in
    let kept = (list_kept c.args.made.now c.keeps.ensures.1 c.args.place.thread es c.in-Some.ensures).1 in
    let list : lists_of c.args.made.now c.args.place.thread ≡ es = ap (λ o. unwrap_or o []) c.in-Some.ensures in
    subst (λ l. AreOwned (take n l) c.loop-m.monitors.items) (sym list)
    (all_owned es n c.depths_after-depths.result c.loop-m.monitors.items are kept
    (subst (λ k. AreOwnedBelow c.depths_after-depths.result k c.loop-m.monitors.items) all c.loop-m.invariant))
