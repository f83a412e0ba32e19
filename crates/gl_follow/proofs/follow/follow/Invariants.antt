use Rattle.std.proofs.Common.{◌+◌, ◌-◌, length, map}
use Rattle.gl_model.specs.Entries.{seen}
use Rattle.gl_follow.specs.Steps.{IsAt}
use Rattle.gl_follow.proofs.Turning.{answers_left}
use Rattle.gl_follow.proofs.follow.follow.Given as goal

abbrev pub invariant-loop-used : goal.invariant-loop-used
invariant-loop-used l = IsAt l.program l.steps l.thread (map seen l.list) l.replay l.place

abbrev pub decreases-loop-used : goal.decreases-loop-used
decreases-loop-used l = (length (map seen l.list) - l.place) + answers_left l.replay.config
