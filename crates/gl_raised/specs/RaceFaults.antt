-- Where the race law fails.
use Rattle.std.specs.Prelude.{List}
use Rattle.gl_model.specs.declared.event.Stamp.{Stamp}
use Rattle.gl_model.specs.Entries.{Entry}
use Rattle.gl_model.specs.Form.{IsMachineRun}
use Rattle.gl_model.specs.HappensBefore.{IsRaisedRightly}
use Rattle.gl_model.specs.Machine.{Setting}
use Rattle.gl_model.specs.Records.{Lists, Place, EntryAt, IsEventList}

-- the entry at c is raised, or is not, against the race law
abbrev pub RaceFailsAt : Lists → Place → Type 0
RaceFailsAt R c = (e : Entry) × EntryAt R c e × (IsRaisedRightly R c e → ⊥)

-- the record's events are a run of the machine, in some setting
abbrev pub AreSteps : Lists → Type 0
AreSteps R = (setting : Setting) × ((h : List Stamp) × IsEventList h R × IsMachineRun setting R h)
