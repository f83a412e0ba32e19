use Rattle.std.proofs.Common.{◌+◌, ◌-◌, length, map}
use Rattle.gl_model.specs.Entries.{seen}
use Rattle.gl_follow.proofs.Turning.{answers_left}
use Rattle.gl_sites.proofs.MadeBy.{AreMadeTo}
use Rattle.gl_sites.proofs.making.makers.Given as goal

abbrev pub invariant-loop-maker : goal.invariant-loop-maker
invariant-loop-maker l = AreMadeTo l.program l.steps l.thread (map seen l.list) l.replay l.makers.items

abbrev pub decreases-loop-maker : goal.decreases-loop-maker
decreases-loop-maker l = (length (map seen l.list) - length l.makers.items) + answers_left l.replay.config
