use Rattle.std.proofs.Common.{◌≡◌, ◌<◌, length}
use Rattle.std.specs.List.{AllByRecursion}
use Rattle.gl_model.specs.declared.limits.TheConstants.{VARIABLES}
use Rattle.gl_journal.specs.Parts.{list_in, parts_in}
use Rattle.gl_journal.proofs.PartLists.{behind}
use Rattle.gl_journal.proofs.parts.list_in.Given as goal

-- the parts so far, and those of the pieces that are left
abbrev pub invariant-loop-piece : goal.invariant-loop-piece
invariant-loop-piece l = (behind l.parts.items (parts_in l.form l.pieces) ≡ list_in l.form l.word)
    × AllByRecursion (λ p. p.var < VARIABLES) l.parts.items

abbrev pub decreases-loop-piece : goal.decreases-loop-piece
decreases-loop-piece l = length l.pieces
