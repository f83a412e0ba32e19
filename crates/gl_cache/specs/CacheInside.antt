-- What a cache's fields stand for, and what holds of them.
use Rattle.std.specs.Prelude.{◌≡◌, ◌↔◌, ℕ, ℤ, ◌<◌, ◌≤◌, length, List}
use Rattle.std.specs.List.{All}
use Rattle.gl_model.specs.declared.limits.TheConstants.{VARIABLES}
use Rattle.gl_cache.specs.declared.cache.Slot.{Slot}
use Rattle.gl_cache.specs.declared.cache.WordCache.TheInside.{Inside}
use Rattle.gl_cache.specs.Bits.{HasBit}
use Rattle.gl_cache.specs.Slots.{words_in}
use Rattle.gl_cache.specs.Words.{Words, IsChanged}

abbrev pub words_of : Inside → Words
words_of s = words_in s.stamp s.slots.items

-- there is a place for each variable, of no later stamp; and the bits say which words were changed
pub record AreSlots (slots : List Slot) (stamp : ℕ) (bits : List ℕ) : Type 0 where
  pub long : length slots ≡ VARIABLES
  pub some : 0 < stamp
  pub past : All (λ q. q.stamp ≤ stamp) slots
  pub changed : (x : ℕ) → HasBit bits x ↔ ((a : ℤ) × IsChanged (words_in stamp slots) x a)

pub record IsCache (s : Inside) : Type 0 where
  pub slots : AreSlots s.slots.items s.stamp s.changed.words
