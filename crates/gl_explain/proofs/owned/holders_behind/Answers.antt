use Rattle.std.proofs.Common.{ℕ, ◌<◌, ◌≤◌, Option, None, IfSome, subst, sym}
use Rattle.std.proofs.lemmas.List.{get_or-replicate}
use Rattle.gl_model.specs.declared.limits.TheConstants.{MONITORS}
use Rattle.gl_explain.proofs.Counting.{known_at}
use Rattle.gl_explain.proofs.Owning.{none_held}
use Rattle.gl_explain.proofs.owned.holders_behind.Goals as goal

pub loop-k-init : goal.loop-k-init
loop-k-init c = record {
  holders = none_held;
  within = λ m h. subst (λ (o : Option (ℕ × ℕ)). IfSome o (λ h. (0 < h.1) × (h.1 ≤ 0))) (sym (get_or-replicate MONITORS m None None h)) tt;
}

pub take-requires-clause-item : goal.take-requires-clause-item
take-requires-clause-item c = c.requires.lines c.loop-k.k-index c.k-item.result
    (known_at c.args.kept.now c.loop-k.k-index c.k-item.result c.loop-k-test.true c.k-item.is)
