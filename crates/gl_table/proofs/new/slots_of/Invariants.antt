use Rattle.std.proofs.Common.{◌≡◌, ◌+◌, ◌≤◌, ◌∷◌, replicate, vec_len, vec_capacity}
use Rattle.gl_rule.specs.declared.slot.Slot.TheVariants as slot
use Rattle.gl_state.specs.Starting.{empty_row, first_state}
use Rattle.gl_table.proofs.new.slots_of.Given as goal

abbrev pub invariant-loop : goal.invariant-loop
invariant-loop l = (l.slots.items ≡ slot.List (first_state l.main) ∷ replicate l.counter (slot.Row empty_row))
    × (vec_len l.slots ≡ l.counter + 1) × (1025 ≤ vec_capacity l.slots)
