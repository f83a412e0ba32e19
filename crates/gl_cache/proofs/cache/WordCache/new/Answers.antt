use Rattle.gl_cache.proofs.Places.{wiped_slots, wiped_words}
use Rattle.gl_cache.proofs.cache.WordCache.new.Goals as goal

pub invariant_of-result : goal.invariant_of-result
invariant_of-result c = record {
  slots = wiped_slots c.in_ok-no_slots.field-0.items c.none.result.words c.in_ok-no_slots.ensures
      c.none.ensures;
}

pub returns : goal.returns
returns c = wiped_words c.in_ok-no_slots.field-0.items c.in_ok-no_slots.ensures
