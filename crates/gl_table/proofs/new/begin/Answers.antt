use Rattle.std.proofs.Common.{◌≡◌, ◌+◌, ◌-◌, ◌++◌, ◌∷◌, [], ap, ◌∙◌, arith, rules}
use Rattle.gl_rule.specs.Opened.{shelves_from}
use Rattle.gl_rule.specs.View.{blank}
use Rattle.gl_table.specs.Beginning.{fresh_from}
use Rattle.gl_table.proofs.Closings.{fresh_next}
use Rattle.gl_table.proofs.new.begin.Goals as goal

pub loop-id-preserved : goal.loop-id-preserved
loop-id-preserved c =
    let z = c.in_ok-table.table.shared.table_id in
    let i = c.loop-id.invariant in
    let n : 15 - c.loop-id.id ≡ 16 - (c.loop-id.id + 1) = omega arith in (
      search rules,
      search rules,
      search rules,
      c.in_ok-cut_pass.ensures.seat.1 ∙ ap (λ k. (blank (shelves_from (c.loop-id.id + 1) k), [])) n,
      ap (λ l. l ++ fresh_from z (c.loop-id.id + 1) (16 - (c.loop-id.id + 1))) (c.push_reserved.ensures.items
          ∙ ap (λ p. c.loop-id.passes.items ++ p ∷ []) c.in_ok-cut_pass.ensures.pass)
          ∙ fresh_next z c.loop-id.id c.loop-id.passes.items (omega arith) ∙ i.4,
    )
