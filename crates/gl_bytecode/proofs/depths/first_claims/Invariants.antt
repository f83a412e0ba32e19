use Rattle.std.proofs.Common.{◌≡◌, ◌∷◌, map, take}
use Rattle.gl_bytecode.proofs.depths.first_claims.Given as goal

abbrev pub invariant-loop-catch : goal.invariant-loop-catch
invariant-loop-catch l =
    l.claims.items ≡ (record { at = 0; depth = 0 }) ∷ map (λ c. record { at = c.target; depth = 1 }) (take l.catch-index l.catches)
