use Rattle.std.proofs.Common.{◌≡◌, drop, map}
use Rattle.gl_model.specs.Entries.{seen}
use Rattle.gl_bytecode.specs.Forced.{word_ahead}
use Rattle.gl_follow.proofs.answers.word_ahead.Given as goal

abbrev pub invariant-loop-entry : goal.invariant-loop-entry
invariant-loop-entry l = word_ahead (map seen (drop l.entry-index l.list)) l.var ≡ word_ahead (map seen l.list) l.var
