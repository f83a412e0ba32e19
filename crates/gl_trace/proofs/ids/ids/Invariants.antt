use Rattle.std.proofs.Common.{◌≡◌, length}
use Rattle.gl_trace.specs.Ids.{set_of}
use Rattle.gl_trace.specs.Kept.{IsKept}
use Rattle.gl_trace.proofs.IdsLemmas.{put_rest}
use Rattle.gl_trace.proofs.ids.ids.Given as goal

abbrev pub invariant-loop-part : goal.invariant-loop-part
invariant-loop-part l = (put_rest l.kept l.parts ≡ set_of l.word) × IsKept l.kept

abbrev pub decreases-loop-part : goal.decreases-loop-part
decreases-loop-part l = length l.parts
