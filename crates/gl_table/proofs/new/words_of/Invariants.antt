use Rattle.std.proofs.Common.{◌≡◌, ◌≤◌, vec_len, vec_capacity}
use Rattle.gl_table.specs.Words.{no_words}
use Rattle.gl_table.proofs.new.words_of.Given as goal

abbrev pub invariant-loop : goal.invariant-loop
invariant-loop l = (l.words.items ≡ no_words l.counter) × (vec_len l.words ≡ l.counter) × (l.count ≤ vec_capacity l.words)
