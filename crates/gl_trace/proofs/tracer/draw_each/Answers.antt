use Rattle.std.proofs.Common.{◌≡◌, ◌<◌, ◌+◌, ◌-◌, ◌^◌, ◌∙◌, arith, get_or, length, ap}
use Rattle.std.specs.Prelude.{slice_index}
use Rattle.std.proofs.lemmas.List.{length-set}
use Rattle.gl_model.specs.declared.limits.TheConstants.{VARIABLES}
use Rattle.gl_trace.proofs.TracerLemmas.{room_at, one_drawn}
use Rattle.gl_trace.proofs.tracer.draw_each.Goals as goal

pub overflow_add-numbers : goal.overflow_add-numbers
overflow_add-numbers c =
    let items = c.ids-var-items.result.now in
    let ids = c.args.variables.now in
    let k = c.loop-var.var-index in
    let there : k < length ids = omega (arith, c.loop-var-test.true, ap length c.ids-var-items.ensures.same) in
    let is : c.from.result ≡ get_or ids k 0 = c.from.ensures ∙ ap (λ l. get_or l k 0) c.ids-var-items.ensures.same in
    let below : c.from.result < VARIABLES = omega (arith, c.ids-var-items.ensures.below k 0 there) in
    let low : get_or c.loop-var.numbers c.from.result 0 < 2 ^ 64 - 1 =
    room_at c.loop-var.numbers (slice_index c.args.numbers.now) items ids k (2 ^ 64 - 1) c.ids-var-items.ensures.same c.keeps.ensures.1
    c.loop-var-test.true
    c.loop-var.invariant.1 c.requires.low c.from.result c.from.ensures below in
    omega arith

pub loop-var-preserved : goal.loop-var-preserved
loop-var-preserved c =
    let items = c.ids-var-items.result.now in
    let ids = c.args.variables.now in
    let k = c.loop-var.var-index in
    let there : k < length ids = omega (arith, c.loop-var-test.true, ap length c.ids-var-items.ensures.same) in
    let here : get_or items k 0 ≡ get_or ids k 0 = ap (λ l. get_or l k 0) c.ids-var-items.ensures.same in
    let room : get_or items k 0 < length c.loop-var.numbers =
    omega (arith, c.ids-var-items.ensures.below k 0 there, c.loop-var.invariant.0) in (
      length-set c.loop-var.numbers c.from.result (get_or c.loop-var.numbers c.from.result 0 + 1) ∙ c.loop-var.invariant.0,
      one_drawn c.loop-var.numbers (slice_index c.args.numbers.now) items ids k c.ids-var-items.ensures.same c.keeps.ensures.1
          c.loop-var-test.true room
          c.loop-var.invariant.1 c.from.result c.from.ensures,
    )
