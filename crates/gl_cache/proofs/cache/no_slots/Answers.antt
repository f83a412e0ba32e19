use Rattle.std.proofs.Common.{◌≡◌, ◌∙◌, ap, arith, replicate}
use Rattle.gl_cache.specs.declared.cache.Slot.{Slot}
use Rattle.gl_cache.specs.Slots.{no_slot}
use Rattle.gl_cache.proofs.cache.no_slots.Goals as goal

pub returns : goal.returns
returns c =
    let all : c.loop.counter ≡ 1024 = omega (arith, c.loop-test.false, c.loop.auto) in
    c.loop.invariant.0 ∙ ap (λ n. replicate {A = Slot} n no_slot) all
