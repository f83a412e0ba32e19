use Rattle.std.proofs.Common.{◌<◌, sym, arith, rules, FitsSigned, w64, length, subst}
use Rattle.std.proofs.lemmas.Int.{to_z-of_z}
use Rattle.gl_cache.specs.Words.{Words, IsChanged}
use Rattle.gl_cache.proofs.Places.{changed_near, changed_value}
use Rattle.gl_cache.proofs.cache.WordCache.next_dirty.Goals as goal

pub returns-in-Some : goal.returns-in-Some
returns-in-Some c =
    let fits : FitsSigned w64 c.index-slot.result.now.value = search rules in
    let are = c.self.invariant.slots in
    let l = c.in-Some.ensures in
    let within : c.in-Some.var < length c.self.inside.slots.items = omega (arith, are.long, l.0) in
    let e = (are.changed c.in-Some.var).0 l.1 in
    let at : Words → Type 0 = λ ws. IsChanged ws c.in-Some.var c.index-slot.result.now.value in
    let there : IsChanged c.args.self.now c.in-Some.var c.index-slot.result.now.value =
    subst at c.self.view_is (changed_value c.self.inside.slots.items c.self.inside.stamp c.in-Some.var c.index-slot.result.now e.0 within
    c.index-slot.ensures e.1) in
    simp to_z-of_z (
      l.0,
      there,
      (λ x a is. l.2 x ((are.changed x).1 (a, (let from : Words → Type 0 = λ ws. IsChanged ws x a in subst from (sym c.self.view_is) is)))),
    )

pub returns-in-None : goal.returns-in-None
returns-in-None c x a is =
    let are = c.self.invariant.slots in
    let from : Words → Type 0 = λ ws. IsChanged ws x a in
    let old = subst from (sym c.self.view_is) is in
    c.in-None.ensures x (changed_near c.self.inside.slots.items c.self.inside.stamp x a are.long old) ((are.changed x).1 (a, old))
