-- the steps so far are judged as the race law says, and the detector was given them
use Rattle.std.proofs.Common.{◌≡◌, length, take}
use Rattle.gl_model.specs.Trace.{AreVerdicts}
use Rattle.gl_example.specs.Steps.{lines_of}
use Rattle.gl_core.specs.Follows.{Follows, IsReady}
use Rattle.gl_example.proofs.judge_all.Given as goal

abbrev pub invariant-loop-step : goal.invariant-loop-step
invariant-loop-step l =
    IsReady l.detector × (length l.judged.items ≡ l.step-index) × AreVerdicts (lines_of (take l.step-index l.steps) l.judged.items)
    × Follows (lines_of (take l.step-index l.steps) l.judged.items) l.detector
