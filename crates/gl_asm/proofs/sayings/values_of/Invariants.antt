-- the values so far, and those of the words that are left
use Rattle.std.proofs.Common.{◌≡◌, ◌≤◌, ◌+◌, length}
use Rattle.gl_model.specs.declared.limits.TheConstants.{INPUTS}
use Rattle.gl_asm.specs.Additions.{values_of}
use Rattle.gl_asm.proofs.Values.{behind}
use Rattle.gl_asm.proofs.sayings.values_of.Given as goal

abbrev pub invariant-loop-word : goal.invariant-loop-word
invariant-loop-word l = (length l.fn.words ≤ INPUTS) × (length l.values + length l.words ≡ length l.fn.words)
    × (behind l.values (values_of l.words) ≡ values_of l.fn.words)

abbrev pub decreases-loop-word : goal.decreases-loop-word
decreases-loop-word l = length l.words
