-- What is proved of runs of the machine and of the first place where a record is none.
use Rattle.std.specs.Prelude.{◌≡◌, ℕ, ◌<◌, ◌≤◌, List, length}
use Rattle.gl_model.specs.declared.event.Stamp.{Stamp}
use Rattle.gl_model.specs.Form.{Form, Listed}
use Rattle.gl_model.specs.Machine.{Setting}
use Rattle.gl_model.specs.Records.{IsEventAt, IsEventList, Lists, Place}
use Rattle.gl_acts.specs.Acting.{LivesAt, RunsMachine, StepsUpTo, ActFailsFirst}

-- the record settles the states: where each position below n has an event, two runs up to n go through the same states
abbrev pub StatesAreSettled : Type 0
StatesAreSettled =
    (setting : Setting) (R : Lists) (n : ℕ) → ((p : ℕ) → p < n → (c : Place) × ((s : Stamp) × IsEventAt R c p s)) →
    (a b : StepsUpTo setting R n) (p : ℕ) → p ≤ n → a.at p ≡ b.at p

-- a listed record has one such first place at most
abbrev pub OneActFailsFirst : Type 0
OneActFailsFirst =
    (setting : Setting) (R : Lists) → Listed R → (c d : Place) → ActFailsFirst setting R c → ActFailsFirst setting R d → c ≡ d

-- a record that is a run of the machine has none
abbrev pub RunsDoNotFail : Type 0
RunsDoNotFail = (setting : Setting) (R : Lists) (c : Place) → RunsMachine setting R → ActFailsFirst setting R c → ⊥

-- in a well-formed record no thread is live after the last event
abbrev pub NoneLivesOn : Type 0
NoneLivesOn = (setting : Setting) (R : Lists) (h : List Stamp) (c : Place) → Form R → IsEventList h R → LivesAt setting R (length h) c → ⊥
