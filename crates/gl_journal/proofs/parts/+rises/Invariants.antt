use Rattle.std.proofs.Common.{length}
use Rattle.gl_journal.proofs.parts.+rises.Given as goal

abbrev pub decreases-rises : goal.decreases-rises
decreases-rises l = length l.parts.now
