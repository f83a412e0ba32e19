use Rattle.gl_cache.proofs.Places.{later_slots, later_words, wiped_slots, wiped_words}
use Rattle.gl_cache.proofs.cache.WordCache.clear.Goals as goal

pub invariant_of-self : goal.invariant_of-self
invariant_of-self c = record {
  slots = wiped_slots c.wipe.new.slots.items c.none-self-inside.result.words c.wipe.ensures
      c.none-self-inside.ensures;
}

pub invariant_of-self-else-self : goal.invariant_of-self-else-self
invariant_of-self-else-self c = record {
  slots =
      later_slots c.self.inside.slots.items c.self.inside.stamp c.self.inside.changed.words c.none-self-inside.result.words
      c.self.invariant.slots
      c.none-self-inside.ensures;
}

pub returns-then-self : goal.returns-then-self
returns-then-self c = wiped_words c.wipe.new.slots.items c.wipe.ensures

pub returns-else-self : goal.returns-else-self
returns-else-self c = later_words c.self.inside.slots.items c.self.inside.stamp c.self.inside.changed.words c.self.invariant.slots
