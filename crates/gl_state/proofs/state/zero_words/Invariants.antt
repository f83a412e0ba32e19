use Rattle.std.proofs.Common.{◌≡◌, ◌≤◌, replicate, vec_len, vec_capacity}
use Rattle.std.specs.Prelude.{pos}
use Rattle.gl_state.proofs.state.zero_words.Given as goal

abbrev pub invariant-loop : goal.invariant-loop
invariant-loop l = (l.words.items ≡ replicate l.counter (pos 0)) × (vec_len l.words ≡ l.counter) × (256 ≤ vec_capacity l.words)
