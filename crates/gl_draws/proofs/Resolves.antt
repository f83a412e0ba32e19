-- Where the open numbers that stand last on some variables get what they are for, each thread has drawn as many numbers as before.
use Rattle.std.proofs.Common.{◌≡◌, ℕ, List, ◌∷◌, length, refl, ap, sym, ◌∙◌, true, false, Bool}
use native.Mathlib.Decide.{ℕ_discrete}
use Rattle.gl_model.specs.Trace.{is_in}
use Rattle.gl_draws.specs.Draws.{Open, Draw, draw}
use Rattle.gl_draws.specs.Resolved.{resolved}
use Rattle.gl_draws.specs.Ties.{count_by}
use Rattle.gl_draws.proofs.DrawCounts.{count_own, count_other}

module _ (draws : ℕ → List Draw) (t p : ℕ) (ys : List ℕ) (d : Draw) (own : d.thread ≡ t) (heads : (y : ℕ) → is_in y ys ≡ true
    → (ds : List Draw) × (draws y ≡ draw t p Open ∷ ds)) where
  -- on one of them the head changes
  pub resolved_in : (y : ℕ) → is_in y ys ≡ true → (ds : List Draw) → draws y ≡ draw t p Open ∷ ds → resolved draws ys d y ≡ d ∷ ds
  resolved_in y c ds is = rw (c, is) refl

  -- and on no other variable
  pub resolved_out : (y : ℕ) → is_in y ys ≡ false → resolved draws ys d y ≡ draws y
  resolved_out y c = rw c refl

  -- each thread has as many numbers as before
  pub count_resolved : (u y : ℕ) → count_by u (resolved draws ys d y) ≡ count_by u (draws y)
  count_resolved u y = by (is_in y ys) refl
    where
      by : (c : Bool) → is_in y ys ≡ c → count_by u (resolved draws ys d y) ≡ count_by u (draws y)
      by false c = ap (count_by u) (resolved_out y c)
      by true c =
          let r = heads y c in
          let a = resolved_in y c r.0 r.1 in
          elim (ℕ_discrete t u) [
            | yes e ↦ ap (count_by u) a ∙ count_own u d r.0 (own ∙ e) ∙ sym (ap (count_by u) r.1 ∙ count_own u (draw t p Open) r.0 e)
            | no ne ↦ ap (count_by u) a ∙ count_other u d r.0 (λ e. ne (sym own ∙ e))
                ∙ sym (ap (count_by u) r.1 ∙ count_other u (draw t p Open) r.0 ne)
          ]

  -- and so has each variable
  pub length_resolved : (y : ℕ) → length (resolved draws ys d y) ≡ length (draws y)
  length_resolved y = by (is_in y ys) refl
    where
      by : (c : Bool) → is_in y ys ≡ c → length (resolved draws ys d y) ≡ length (draws y)
      by false c = ap length (resolved_out y c)
      by true c = let r = heads y c in ap length (resolved_in y c r.0 r.1) ∙ sym (ap length r.1)
