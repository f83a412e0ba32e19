use Rattle.std.proofs.Common.{◌≡◌, ◌+◌, ◌++◌, ◌∷◌, [], arith, rules, sym, subst, ◌∙◌}
use Rattle.gl_model.specs.declared.limits.TheConstants.{MONITORS}
use Rattle.gl_explain.specs.Told.{told_of}
use Rattle.gl_explain.proofs.Behind.{steps_near}
use Rattle.gl_explain.proofs.Owning.{AreOwnedBelow, none_owned, one_owned, not_owned, all_owned}
use Rattle.gl_explain.proofs.owned.owned.Goals.{then-is_owner+in_ok-push, else-is_owner}
use Rattle.gl_explain.proofs.owned.owned.Goals as goal

pub loop-m-init : goal.loop-m-init
loop-m-init c = subst (AreOwnedBelow c.holders_behind-holders.result c.args.thread 0) (sym c.new-monitors.ensures.items)
    (none_owned c.holders_behind-holders.result c.args.thread)

pub loop-m-preserved : goal.loop-m-preserved
loop-m-preserved c =
    let holders = c.holders_behind-holders.result in
    elim c.if-is_owner.branch [
      | then-is_owner+in_ok-push w ↦
          (let is : c.if-is_owner.monitors.items ≡ c.loop-m.monitors.items ++ c.loop-m.m ∷ [] = search rules in
          subst (AreOwnedBelow holders c.args.thread (c.loop-m.m + 1)) (sym is)
          (one_owned holders c.args.thread c.loop-m.m c.loop-m.monitors.items (sym c.is_owner.ensures ∙ w.if-is_owner.true)
          c.loop-m.invariant))
      | else-is_owner w ↦
          (let is : c.if-is_owner.monitors.items ≡ c.loop-m.monitors.items = search rules in
          subst (AreOwnedBelow holders c.args.thread (c.loop-m.m + 1)) (sym is)
          (not_owned holders c.args.thread c.loop-m.m c.loop-m.monitors.items (sym c.is_owner.ensures ∙ w.if-is_owner.false)
          c.loop-m.invariant))
    ]

pub returns : goal.returns
returns c =
    let all : c.loop-m.m ≡ MONITORS = (let n = c.loop-m-test.false in let m = c.loop-m.auto.m-end in omega arith) in
    all_owned (told_of c.args.kept.now) c.holders_behind-holders.result c.args.thread c.loop-m.monitors.items
    c.holders_behind-holders.ensures (steps_near c.args.kept.now c.requires.lines)
    (subst (λ n. AreOwnedBelow c.holders_behind-holders.result c.args.thread n c.loop-m.monitors.items) all c.loop-m.invariant)
