-- The record of a trace obeys what a record has to obey.
use Rattle.std.specs.Prelude.{List}
use Rattle.gl_model.specs.declared.event.Stamp.{Stamp}
use Rattle.gl_model.specs.Form.{Form, Numbered, IsMachineRun}
use Rattle.gl_model.specs.HappensBefore.{Races}
use Rattle.gl_model.specs.Machine.{trace_setting}
use Rattle.gl_model.specs.Records.{IsEventList}
use Rattle.gl_model.specs.Trace.{Line, trace_record, AreVerdicts}
use Rattle.gl_lines.specs.TraceStates.{AreSound}

-- where the verdicts are right, the record of the trace obeys the law of races
abbrev pub RecordRaces : Type 0
RecordRaces = (lines : List Line) → AreVerdicts lines → Races (trace_record lines)

-- the record of a sound trace is well formed, its numbers are each once, and the machine makes its events
pub record IsWhole (lines : List Line) : Type 0 where
  pub form : Form (trace_record lines)
  pub numbered : Numbered (trace_record lines)
  pub events : List Stamp
  pub listed : IsEventList events (trace_record lines)
  pub machine : IsMachineRun trace_setting (trace_record lines) events

abbrev pub RecordIsWhole : Type 0
RecordIsWhole = (lines : List Line) → AreSound lines → IsWhole lines
