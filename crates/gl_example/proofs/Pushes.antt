-- A step more, and what was said of it.
use Rattle.std.proofs.Common.{◌≡◌, List, [], ◌∷◌, ◌++◌, length, refl, ap, arith}
use Rattle.gl_model.specs.declared.row.Judged.{Judged}
use Rattle.gl_model.specs.TraceSteps.{Step}
use Rattle.gl_example.specs.Steps.{lines_of}

-- the lines of steps with verdicts, with one of each more, are the others and then that one
pub lines_push : (ss : List Step) (js : List Judged) (s : Step) (j : Judged) → length js ≡ length ss
    → lines_of (ss ++ s ∷ []) (js ++ j ∷ []) ≡ lines_of ss js ++ record { thread = s.0; item = s.1; judged = j } ∷ []
lines_push [] [] s j e = refl
lines_push [] (y ∷ ys) s j e = absurd (omega (arith, e))
lines_push (x ∷ xs) [] s j e = absurd (omega (arith, e))
lines_push (x ∷ xs) (y ∷ ys) s j e = ap (λ r. record { thread = x.0; item = x.1; judged = y } ∷ r) (lines_push xs ys s j (omega (arith, e)))
