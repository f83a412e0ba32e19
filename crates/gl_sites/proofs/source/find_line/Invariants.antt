-- no line so far is the one
use Rattle.std.proofs.Common.{length}
use Rattle.gl_sites.proofs.Walking.{Searches}
use Rattle.gl_sites.proofs.source.find_line.Given as goal

abbrev pub invariant-loop-line : goal.invariant-loop-line
invariant-loop-line l =
    Searches l.text l.lines l.reached.functions l.reached.instructions l.reached.name.now l.function l.place

abbrev pub decreases-loop-line : goal.decreases-loop-line
decreases-loop-line l = length l.lines.left
