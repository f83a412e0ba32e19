-- Whether the event at a place of the record goes on from the states that the coded state stands for.
use Rattle.std.specs.Prelude.{◌≡◌, ◌≢◌, ℕ, ℤ, Bool, [], MatchBool, Some, ◌⊎◌}
use Rattle.gl_model.specs.declared.event.Act.TheVariants.{Fork}
use Rattle.gl_model.specs.declared.event.Stamp.{Stamp}
use Rattle.gl_model.specs.Entries.{Entry, Sync}
use Rattle.gl_model.specs.Form.{value_of}
use Rattle.gl_model.specs.Machine.{Setting}
use Rattle.gl_model.specs.Records.{event_of, IsEventAt, Lists, Place}
use Rattle.gl_state.specs.ListView.{ListView}
use Rattle.gl_acts.specs.Applying.{Applies, IsNoStepFrom, IsStepFrom}

-- the event that an entry of thread t is, if it is one: the answer tells whether it is a step
abbrev pub AppliesEntry : Setting → ℕ → Entry → ListView → ListView → Bool → Type 0
AppliesEntry setting t e old new made =
    (s : Stamp) → s.thread ≡ t → event_of e ≡ Some s.event → Applies setting s (value_of e) old new made

-- a thread that the entry forks has a list
abbrev pub HasForked : Lists → Entry → Type 0
HasForked R e = (at u f : ℕ) (value : ℤ) → e ≡ Sync at (Fork u f) value → R u ≢ []

-- an event at the place is a step, to the states that new stands for, and a thread that it forks has a list
abbrev pub GoesOn : Setting → Lists → Place → ListView → ListView → Type 0
GoesOn setting R c old new =
    (p : ℕ) (s : Stamp) (e : IsEventAt R c p s) → HasForked R e.entry × IsStepFrom setting s (value_of e.entry) old new

-- it is no step, or forks a thread that has no list
abbrev pub Stops : Setting → Lists → Place → ListView → Type 0
Stops setting R c old =
    (p : ℕ) (s : Stamp) (e : IsEventAt R c p s) → (HasForked R e.entry → ⊥) ⊎ IsNoStepFrom setting s (value_of e.entry) old

-- the answer tells which of the two
abbrev pub Makes : Setting → Lists → Place → ListView → ListView → Bool → Type 0
Makes setting R c old new made = MatchBool made (GoesOn setting R c old new) (Stops setting R c old)
