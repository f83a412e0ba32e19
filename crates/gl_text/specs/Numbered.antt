-- What readers of lines have: a line with its number and its place, and what is left of a text.
use Rattle.std.specs.Prelude.{◌≡◌, ℕ, List, drop}

-- a line, its number, counted from 1, and where it begins in its text
pub record NumberedLine : Type 0 where
  pub number : ℕ
  pub start : ℕ
  pub text : List ℕ

-- how many lines were given, where in the text the next one begins, the bytes that are left, and their lines
pub record LinesLeft : Type 0 where
  pub given : ℕ
  pub at : ℕ
  pub rest : List ℕ
  pub left : List (List ℕ)

-- what is left is what this text has from there on
abbrev pub AreLeftOf : List ℕ → LinesLeft → Type 0
AreLeftOf whole lines = drop lines.at whole ≡ lines.rest
