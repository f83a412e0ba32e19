use Rattle.std.proofs.Common.{◌≤◌, ◌<◌, ◌∙◌, sym, ap, arith, get_or, length, subst, false}
use Rattle.std.proofs.lemmas.List.Elements.{All-get_or}
use Rattle.gl_cache.specs.declared.cache.Slot.{Slot}
use Rattle.gl_cache.specs.Words.{cleaned}
use Rattle.gl_cache.proofs.Places.{clean_shows, clean_words, slots_clean}
use Rattle.gl_cache.proofs.cache.WordCache.clean.Goals as goal

pub invariant_of-self : goal.invariant_of-self
invariant_of-self c =
    let are = c.self.invariant.slots in
    let q : Slot = c.index-slot.result.now in
    let within : c.args.var < length c.self.inside.slots.items = omega (arith, are.long, c.requires) in
    let past : (get_or c.self.inside.slots.items c.args.var q).stamp ≤ c.self.inside.stamp =
    All-get_or (λ (p : Slot). p.stamp ≤ c.self.inside.stamp) c.self.inside.slots.items c.args.var q within are.past in
    let at : Slot → Type 0 = λ p. p.stamp ≤ c.self.inside.stamp in
    record {
      slots =
          slots_clean c.self.inside.slots.items c.self.inside.stamp c.self.inside.changed.words are c.args.var c.requires
          (record { stamp = q.stamp; value = q.value; dirty = false })
          (subst at (sym c.index-slot.ensures) past) c.remove.new.self.words (clean_shows c.self.inside.stamp q) c.remove.ensures;
    }

pub returns : goal.returns
returns c =
    let are = c.self.invariant.slots in
    let within : c.args.var < length c.self.inside.slots.items = omega (arith, are.long, c.requires) in
    clean_words c.self.inside.slots.items c.self.inside.stamp c.args.var c.index-slot.result.now within c.index-slot.ensures
    ∙ ap (cleaned c.args.var) c.self.view_is
