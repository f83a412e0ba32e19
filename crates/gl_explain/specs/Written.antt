-- The text of the explanations.
use Rattle.std.specs.Prelude.{◌≡◌, ℕ, List}
use Rattle.std.specs.List.{flat_map}
use Rattle.gl_names.specs.Names.{Naming}
use Rattle.gl_explain.specs.declared.told.Told.{Told}
use Rattle.gl_explain.specs.declared.told.Explanation.{Explanation}
use Rattle.gl_explain.specs.Explained.{AreExplained}
use Rattle.gl_explain.specs.Texts.{explanation_text}

-- these bytes are the explanations of the races among the lines, with these names
pub record IsWritten (names : Naming) (done : List Told) (bytes : List ℕ) : Type 0 where
  pub explained : List Explanation
  pub are : AreExplained done explained
  pub text : bytes ≡ flat_map (explanation_text names) explained
