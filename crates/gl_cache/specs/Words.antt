-- Private words: of each variable its word, where it has one, and whether that was changed.
use Rattle.std.specs.Prelude.{◌≡◌, ℕ, ℤ, Bool, true, false, List, replicate, slice_index_or, slice_set, Option, Some, None}
use Rattle.gl_model.specs.declared.limits.TheConstants.{VARIABLES}

pub record Word : Type 0 where
  pub value : ℤ
  pub dirty : Bool

-- of each variable its word
abbrev pub Words : Type 0
Words = List (Option Word)

abbrev pub word_at : Words → ℕ → Option Word
word_at ws x = slice_index_or ws x None

abbrev pub no_words : Words
no_words = replicate VARIABLES None

-- the words with this one, in place of that of its variable
abbrev pub with_word : ℕ → Word → Words → Words
with_word x w ws = slice_set ws x (Some w)

abbrev pub clean_word : Option Word → Option Word
clean_word None = None
clean_word (Some w) = Some (record w { dirty = false })

-- the word of the variable counts as unchanged
abbrev pub cleaned : ℕ → Words → Words
cleaned x ws = slice_set ws x (clean_word (word_at ws x))

-- the word of the variable was changed, and is this
abbrev pub IsChanged : Words → ℕ → ℤ → Type 0
IsChanged ws x a = word_at ws x ≡ Some (record { value = a; dirty = true })
