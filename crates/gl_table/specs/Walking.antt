-- The pass after it loaded words of the event at a position.
use Rattle.std.specs.Prelude.{ℕ}
use Rattle.gl_model.specs.declared.event.Stamp.{Stamp}
use Rattle.gl_rule.specs.View.{CellWord, saw_cell, knows}
use Rattle.gl_table.specs.PassView.{PassView, view_of, after}

abbrev pub word_at : ℕ → ℕ → ℕ → CellWord
word_at p i word = record { position = p; index = i; word = word }

-- one word
abbrev pub saw_word : PassView → ℕ → ℕ → ℕ → PassView
saw_word q p i word = after q (saw_cell (view_of q) (word_at p i word))

-- four words, and the last with the event
abbrev pub four_words : PassView → ℕ → ℕ → ℕ → ℕ → ℕ → PassView
four_words q p a b c d = saw_word (saw_word (saw_word (saw_word q p 0 a) p 1 b) p 2 c) p 3 d

abbrev pub knew : PassView → ℕ → ℕ → Stamp → PassView
knew q p word x = after q (knows (saw_cell (view_of q) (word_at p 4 word)) p x)
