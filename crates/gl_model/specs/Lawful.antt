-- What makes a record lawful, but for the program: the clauses that speak of the record and of the machine's setting alone.
use Rattle.std.specs.Prelude.{List}
use Rattle.gl_model.specs.declared.event.Stamp.{Stamp}
use Rattle.gl_model.specs.Machine.{Setting}
use Rattle.gl_model.specs.Records.{Lists, IsEventList}
use Rattle.gl_model.specs.Form.{Form, Numbered, IsMachineRun}
use Rattle.gl_model.specs.HappensBefore.{Races}
use Rattle.gl_model.specs.Flat.{Legal}

-- the record is well formed, listed and numbered; its events are steps of the machine; its raised entries are those of the race law; and,
-- laid out, it is one history of the machine's one memory. What the instructions of a program add stands with the instructions.
pub record IsLawful (setting : Setting) (R : Lists) : Type 0 where
  pub form : Form R
  pub events : List Stamp
  pub listed : IsEventList events R
  pub numbered : Numbered R
  pub machine : IsMachineRun setting R events
  pub races : Races R
  pub legal : Legal setting R
