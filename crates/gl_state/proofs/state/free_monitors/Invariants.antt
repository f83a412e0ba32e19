use Rattle.std.proofs.Common.{◌≡◌, ◌≤◌, vec_len, vec_capacity}
use Rattle.gl_state.proofs.Starting.{none_list}
use Rattle.gl_state.proofs.state.free_monitors.Given as goal

abbrev pub invariant-loop : goal.invariant-loop
invariant-loop l = (l.monitors.items ≡ none_list l.counter) × (vec_len l.monitors ≡ l.counter) × (256 ≤ vec_capacity l.monitors)
