use Rattle.std.proofs.Common.{◌∙◌, sym, ap, arith, FitsSigned, w64, Bool, true, false, subst, set}
use Rattle.std.proofs.lemmas.Int.{to_z-of_z}
use Rattle.gl_cache.specs.CacheInside.{AreSlots}
use Rattle.gl_cache.specs.Words.{with_word}
use Rattle.gl_cache.proofs.Places.{put_clean, put_shows, put_words, slots_changed, slots_clean}
use Rattle.gl_cache.proofs.cache.WordCache.put.Goals as goal

pub invariant_of-self : goal.invariant_of-self
invariant_of-self c =
    let fits : FitsSigned w64 c.args.value = c.ranges.value in
    let st = c.self.inside.stamp in
    let at : Bool → Type 0 = λ d. AreSlots (set c.self.inside.slots.items c.args.var
    (record { stamp = st; value = c.args.value; dirty = d })) st c.add.new.self.words in
    simp to_z-of_z (record {
      slots =
          subst at (sym c.if-dirty.true)
          (slots_changed c.self.inside.slots.items st c.self.inside.changed.words c.self.invariant.slots c.args.var c.requires
          (record { stamp = st; value = c.args.value; dirty = true }) (omega arith) c.add.new.self.words c.args.value
          (put_shows st c.args.value true) c.add.ensures);
    })

pub invariant_of-self-else-dirty : goal.invariant_of-self-else-dirty
invariant_of-self-else-dirty c =
    let fits : FitsSigned w64 c.args.value = c.ranges.value in
    let st = c.self.inside.stamp in
    let at : Bool → Type 0 = λ d. AreSlots (set c.self.inside.slots.items c.args.var
    (record { stamp = st; value = c.args.value; dirty = d })) st c.remove.new.self.words in
    simp to_z-of_z (record {
      slots =
          subst at (sym c.if-dirty.false)
          (slots_clean c.self.inside.slots.items st c.self.inside.changed.words c.self.invariant.slots c.args.var c.requires
          (record { stamp = st; value = c.args.value; dirty = false }) (omega arith) c.remove.new.self.words (put_clean st c.args.value)
          c.remove.ensures);
    })

pub returns-then-dirty : goal.returns-then-dirty
returns-then-dirty c =
    let fits : FitsSigned w64 c.args.value = c.ranges.value in
    simp to_z-of_z
    (put_words c.self.inside.slots.items c.self.inside.stamp c.args.var c.args.value c.args.dirty
    ∙ ap (with_word c.args.var (record { value = c.args.value; dirty = c.args.dirty })) c.self.view_is)

pub returns-else-dirty : goal.returns-else-dirty
returns-else-dirty c =
    let fits : FitsSigned w64 c.args.value = c.ranges.value in
    simp to_z-of_z
    (put_words c.self.inside.slots.items c.self.inside.stamp c.args.var c.args.value c.args.dirty
    ∙ ap (with_word c.args.var (record { value = c.args.value; dirty = c.args.dirty })) c.self.view_is)
