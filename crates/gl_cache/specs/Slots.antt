-- The places of the words, of which those count that have the cache's stamp.
use Rattle.std.specs.Prelude.{ℕ, pos, ◌==◌, false, if◌then◌else◌, map, List, Option, Some, None}
use Rattle.gl_cache.specs.declared.cache.Slot.{Slot}
use Rattle.gl_cache.specs.Words.{Word, Words}

-- a place with nothing in it
abbrev pub no_slot : Slot
no_slot = record { stamp = 0; value = pos 0; dirty = false }

abbrev pub shown : ℕ → Slot → Option Word
shown stamp q = if q.stamp == stamp then Some (record { value = q.value; dirty = q.dirty }) else None

abbrev pub words_in : ℕ → List Slot → Words
words_in stamp slots = map (shown stamp) slots
