-- That a plain access has a line.
use Rattle.std.specs.Prelude.{ℕ, ℤ, Bool, List}
use Rattle.gl_model.specs.Entries.{Entry, Plain}
use Rattle.gl_model.specs.Records.{At}
use Rattle.gl_asm.specs.Texts.{IsText}
use Rattle.gl_bytecode.specs.Programs.{Bytecode}
use Rattle.gl_bytecode.specs.Runs.{Runs}
use Rattle.gl_sites.specs.Sites.{IsMadeAt}
use Rattle.gl_sites.specs.SourceLines.{IsLineOf}

-- some instruction made the entry at n, and stands in some line of the text
pub record HasLine (text : List ℕ) (P : Bytecode) (steps t : ℕ) (list : List Entry) (n : ℕ) : Type 0 where
  pub function : ℕ
  pub place : ℕ
  pub line : ℕ
  pub made : IsMadeAt P steps t list n function place
  pub is_line : IsLineOf text function place line

-- so it is with each plain access in a list that its thread's machine makes
abbrev pub PlainHasLine : Type 0
PlainHasLine =
    (text : List ℕ) (P : Bytecode) (inputs : List ℤ) (steps t : ℕ) (list : List Entry) (n : ℕ) (x nth : ℕ) (cached write : Bool) (value : ℤ)
    (raised : Bool) → IsText text P inputs → Runs P steps t list → At list n (Plain x nth cached write value raised) →
    HasLine text P steps t list n
