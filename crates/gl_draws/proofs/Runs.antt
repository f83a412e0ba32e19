-- A run of the machine with one step more.
use Rattle.std.proofs.Common.{List, [], ◌∷◌, ◌++◌, subst, refl}
use Rattle.std.specs.Prelude.{ℤ}
use Rattle.gl_model.specs.declared.event.Stamp.{Stamp}
use Rattle.gl_model.specs.Machine.{Setting, State, Step, Run}

-- where a run ends, the machine can make one step more
pub allows_push : (setting : Setting) (old mid new : State) (l : List Stamp) (s : Stamp) (value : ℤ) → Step setting mid s value new
    → Run setting old l mid → Run setting old (l ++ s ∷ []) new
allows_push setting old mid new [] s value step r = (value, new, subst (λ k. Step setting k s value new) r step, refl)
allows_push setting old mid new (x ∷ l) s value step r = (r.0, r.1, r.2, allows_push setting r.1 mid new l s value step r.3)
