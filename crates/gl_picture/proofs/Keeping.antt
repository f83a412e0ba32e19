-- The arrows that are left out follow from those that are drawn.
use Rattle.std.proofs.Common.{◌≡◌, ℕ, zero, suc, ◌-◌, ◌<◌, ◌≤◌, List, sym, arith, inl, inr, Some}
use Rattle.std.specs.Prelude.{slice_get}
use native.Mathlib.Decide.{ℕ_discrete}
use Rattle.gl_model.specs.Edges.{TransitiveClosure, one_step, then_step}
use Rattle.gl_explain.specs.declared.told.Told.{Told}
use Rattle.gl_picture.specs.Arrows.{Leads}
use Rattle.gl_picture.specs.Order.{Goes, down, along, HasWay, OrderIsKept}

-- a step and then a way of steps is a way of steps
step_first : {A : Type 0} (Step : A → A → Type 0) (a b c : A) → Step a b → TransitiveClosure Step b c → TransitiveClosure Step a c
step_first Step a b c s (one_step t) = then_step (one_step s) t
step_first Step a b c s (then_step {b = d} way t) = then_step (step_first Step a b d s way) t

-- for rows that are no further apart than n
kept_within : (n : ℕ) (rows : List Told) (i j : ℕ) (a b : Told) → j - i ≤ n → i < j → slice_get rows i ≡ Some a
    → slice_get rows j ≡ Some b → Leads rows a b i j → (HasWay rows i j → ⊥) → ⊥
kept_within zero rows i j a b near order there here leads none = absurd (omega arith)
kept_within (suc n) rows i j a b near order there here leads none = elim (ℕ_discrete a.thread b.thread) [
  | yes same ↦ none (one_step (down a b order there here same))
  | no apart ↦ none (one_step (along (record {
    first = a;
    second = b;
    there = there;
    here = here;
    before = order;
    apart = apart;
    leads = leads;
    nearest = λ k c after before at between. elim between [
      | inl own ↦ kept_within n rows k j c b (omega arith) before at here own.1
          (λ way. none (step_first (Goes rows) i k j (down a c after there at (sym own.0)) way))
      | inr other ↦ kept_within n rows i k a c (omega arith) after there at other.1
          (λ way. none (then_step way (down c b before at here other.0)))
    ];
  })))
]

-- where a row synchronizes with a later one, it cannot be that no way of arrows leads there
pub order_kept : OrderIsKept
order_kept rows i j a b = kept_within (j - i) rows i j a b (omega arith)
