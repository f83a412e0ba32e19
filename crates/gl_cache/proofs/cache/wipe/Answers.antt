use Rattle.std.proofs.Common.{◌≡◌, ◌≤◌, ◌∙◌, sym, ap, arith, replicate, length}
use Rattle.std.proofs.lemmas.List.{take_all}
use Rattle.gl_cache.specs.declared.cache.Slot.{Slot}
use Rattle.gl_cache.specs.Slots.{no_slot}
use Rattle.gl_cache.proofs.cache.wipe.Goals as goal

pub returns : goal.returns
returns c =
    let all : c.loop-i.i ≡ 1024 = omega (arith, c.loop-i-test.false, c.loop-i.auto) in
    let within : length c.loop-i.slots.items ≤ c.loop-i.i = omega (arith, all, c.loop-i.invariant.1) in
    sym (take_all c.loop-i.i c.loop-i.slots.items within) ∙ c.loop-i.invariant.0 ∙ ap (λ n. replicate {A = Slot} n no_slot) all
