-- The clauses of an audit: what each says of a record, and where a record fails it first.
use Rattle.std.specs.Prelude.{◌≢◌, ℕ, ℤ, List, []}
use Rattle.gl_model.specs.Entries.{Entry}
use Rattle.gl_model.specs.Flat.{Legal}
use Rattle.gl_model.specs.Form.{Form, Listed, Numbered}
use Rattle.gl_model.specs.HappensBefore.{Races}
use Rattle.gl_model.specs.Lists.{lists_of}
use Rattle.gl_model.specs.Records.{Lists, Place}
use Rattle.gl_bytecode.specs.Lawful.{setting_of}
use Rattle.gl_bytecode.specs.Programs.{Bytecode}
use Rattle.gl_bytecode.specs.Runs.{Runs}
use Rattle.gl_places.specs.Places.{Before, IsFirstBy}
use Rattle.gl_places.specs.Uses.{PositionFailsAt}
use Rattle.gl_form.specs.Rules.{FormFailsAt}
use Rattle.gl_listing.specs.Numbering.{NumberFailsAt}
use Rattle.gl_acts.specs.Acting.{ActFailsFirst, RunsMachine}
use Rattle.gl_raised.specs.RaceFaults.{RaceFailsAt}
use Rattle.gl_flat.specs.Words.{WordFailsFirst}
use Rattle.gl_follow.specs.Beginnings.{ProgramFailsAt}

-- in the order in which they are looked at
pub data Clause : Type 0 where
  OfForm : Clause
  OfList : Clause
  OfNumbers : Clause
  OfMachine : Clause
  OfRaces : Clause
  OfWords : Clause
  OfProgram : Clause

abbrev pub number_of : Clause → ℕ
number_of OfForm = 1
number_of OfList = 2
number_of OfNumbers = 3
number_of OfMachine = 4
number_of OfRaces = 5
number_of OfWords = 6
number_of OfProgram = 7

-- what the clause says: the record is well formed; listed; numbered; its events are a run of the one-memory machine; its entries are
-- raised as the race law says; laid out, it is one history of one memory; and each list is what its thread's instructions make of the
-- answers in it
abbrev pub Says : Bytecode → List ℤ → ℕ → Lists → Clause → Type 0
Says P inputs steps R OfForm = Form R
Says P inputs steps R OfList = Listed R
Says P inputs steps R OfNumbers = Numbered R
Says P inputs steps R OfMachine = RunsMachine (setting_of P inputs) R
Says P inputs steps R OfRaces = Races R
Says P inputs steps R OfWords = Legal (setting_of P inputs) R
Says P inputs steps R OfProgram = (t : ℕ) → R t ≢ [] → Runs P steps t (R t)

-- the first place where the record fails the clause
abbrev pub FailsFirst : Bytecode → List ℤ → ℕ → List (ℕ × List Entry) → Clause → Place → Type 0
FailsFirst P inputs steps made OfForm c = IsFirstBy Before (FormFailsAt (lists_of made)) c
FailsFirst P inputs steps made OfList c = IsFirstBy Before (PositionFailsAt made) c
FailsFirst P inputs steps made OfNumbers c = IsFirstBy Before (NumberFailsAt made) c
FailsFirst P inputs steps made OfMachine c = ActFailsFirst (setting_of P inputs) (lists_of made) c
FailsFirst P inputs steps made OfRaces c = IsFirstBy Before (RaceFailsAt (lists_of made)) c
FailsFirst P inputs steps made OfWords c = WordFailsFirst (lists_of made) c
FailsFirst P inputs steps made OfProgram c = IsFirstBy Before (ProgramFailsAt P steps (lists_of made)) c
