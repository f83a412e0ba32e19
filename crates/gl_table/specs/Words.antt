-- The words of a table at the start.
use Rattle.std.specs.Prelude.{ℕ, List, replicate}

abbrev pub no_words : ℕ → List ℕ
no_words n = replicate n 0
