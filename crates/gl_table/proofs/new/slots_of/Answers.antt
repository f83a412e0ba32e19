use Rattle.std.proofs.Common.{◌≡◌, ◌∷◌, replicate, ap, ◌∙◌, arith}
use Rattle.gl_rule.specs.declared.slot.Slot.TheVariants as slot
use Rattle.gl_state.specs.Starting.{empty_row, first_state}
use Rattle.gl_table.proofs.new.slots_of.Goals as goal

pub returns : goal.returns
returns c =
    let i = c.loop.invariant in
    let test = c.loop-test.false in
    let end = c.loop.auto.counter-end in
    let n : c.loop.counter ≡ 1024 = omega arith in
    i.0 ∙ ap (λ k. slot.List (first_state c.args.main) ∷ replicate k (slot.Row empty_row)) n
