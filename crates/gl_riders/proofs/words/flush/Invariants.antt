use Rattle.std.proofs.Common.{◌≡◌, length, List, ℕ}
use Rattle.gl_riders.specs.Owing.{Owns}
use Rattle.gl_riders.specs.Unanswered.{HavePaid}
use Rattle.gl_riders.proofs.words.flush.Given as goal

abbrev pub invariant-owed : goal.invariant-owed
invariant-owed l = record {
  owns : Owns l.words l.pass.own;
  rest : l.pass.own ≡ record l.initial.pass.own { owed = l.pass.own.owed };
  spare : l.pass.spare ≡ l.initial.pass.spare;
  paid : (vars : List ℕ) × HavePaid vars l.initial.pass l.pass;
}

abbrev pub decreases-owed : goal.decreases-owed
decreases-owed l = length l.pass.own.owed
