-- Fewer than two words are no command.
use Rattle.std.proofs.Common.{◌≡◌, ◌<◌, List, [], ◌∷◌, None, length, map, refl, arith}
use Rattle.gl_words.specs.Options.{Word}
use Rattle.gl_run.specs.Words.{command_of}

-- fewer than two words are no command
pub few_words : {A : Type 0} (f : A → Word) (ws : List A) → length ws < 2 → None ≡ command_of (map f ws)
few_words f [] few = refl
few_words f (a ∷ []) few = refl
few_words f (a ∷ b ∷ rest) few = absurd (omega arith)
