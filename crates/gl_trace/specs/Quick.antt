-- Lines of words with one space between, at the front of a text.
use Rattle.std.specs.Prelude.{◌≡◌, ℕ, ◌<◌, List, ◌∷◌, ◌++◌, length, Bool, true, false, ◌||◌}
use Rattle.std.specs.List.{list_any}
use Rattle.std.specs.Str.Lines.{lines}
use Rattle.gl_text.specs.Text.{is_blank, is_special, is_some_word, is_bad}

-- a byte that no word has: a blank, a `#`, or one that is not printable
abbrev pub is_end : ℕ → Bool
is_end b = is_blank b || is_special b

-- the bytes are one word
abbrev pub IsWord : List ℕ → Type 0
IsWord word = (is_some_word word ≡ true) × (list_any is_end word ≡ false)

-- the text is a word, the byte that stops it, and a rest
pub record Begins (text word : List ℕ) (stop : ℕ) (rest : List ℕ) : Type 0 where
  pub whole : text ≡ word ++ stop ∷ rest
  pub is_word : IsWord word

-- the first line of the text has no bad byte, and the rest is behind it
pub record IsFirstLine (text line rest : List ℕ) : Type 0 where
  pub here : lines text ≡ line ∷ lines rest
  pub good : is_bad line ≡ false
  pub shorter : length rest < length text
