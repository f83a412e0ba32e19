use Rattle.std.proofs.Common.{◌≡◌, map}
use Rattle.gl_bytecode.specs.Runs.{same_words}
use Rattle.gl_follow.specs.Words.{pair_word}
use Rattle.gl_follow.proofs.WordLemmas.{same_from}
use Rattle.gl_follow.proofs.words.same_pairs.Given as goal

abbrev pub invariant-loop-i : goal.invariant-loop-i
invariant-loop-i l = same_from pair_word pair_word l.writes l.words l.i ≡ same_words (map pair_word l.writes) (map pair_word l.words)
