-- Where the events of a record, taken by their positions, are a run of the one-memory machine, and the first place where they are not.
use Rattle.std.specs.Prelude.{◌≡◌, ◌≢◌, ℕ, ℤ, ◌+◌, ◌<◌, List, [], length, Option, Some, None, ◌⊎◌}
use Rattle.gl_model.specs.declared.event.Act.TheVariants.{Fork}
use Rattle.gl_model.specs.declared.event.Stamp.{Stamp}
use Rattle.gl_model.specs.Entries.{Sync}
use Rattle.gl_model.specs.Form.{IsMachineRun, value_of}
use Rattle.gl_model.specs.Machine.{Setting, State, Step, start, NeverForked, Ended}
use Rattle.gl_model.specs.Records.{EntryAt, IsEventAt, IsEventList, Lists, Place}

-- the record's events are a run of the machine
abbrev pub RunsMachine : Setting → Lists → Type 0
RunsMachine setting R = (h : List Stamp) × IsEventList h R × IsMachineRun setting R h

-- the events at the positions below n are steps of the machine, one after another, and each thread that they fork has a list
pub record StepsUpTo (setting : Setting) (R : Lists) (n : ℕ) : Type 0 where
  pub at : ℕ → State
  pub first : at 0 ≡ start setting
  pub steps : (c : Place) (p : ℕ) (s : Stamp) → p < n → (e : IsEventAt R c p s) → Step setting (at p) s (value_of e.entry) (at (p + 1))
  pub lists : (c : Place) (p u f : ℕ) (value : ℤ) → p < n → EntryAt R c (Sync p (Fork u f) value) → R u ≢ []

-- the event at position p, which stands at c, is the first that is no step, or that forks a thread which has no list
pub record ActFailsAt (setting : Setting) (R : Lists) (p : ℕ) (c : Place) : Type 0 where
  pub before : StepsUpTo setting R p
  pub event : Stamp
  pub there : IsEventAt R c p event
  pub wrong : StepsUpTo setting R (p + 1) → ⊥

-- the thread was forked, and has not ended
abbrev pub IsLive : State → ℕ → Type 0
IsLive now t = (now.threads t ≢ NeverForked) × (now.threads t ≢ Ended)

-- all n events are steps, and c is the place after the last entry of the least thread that is live then
pub record LivesAt (setting : Setting) (R : Lists) (n : ℕ) (c : Place) : Type 0 where
  pub all : StepsUpTo setting R n
  pub live : IsLive (all.at n) c.thread
  pub least : (t : ℕ) → t < c.thread → IsLive (all.at n) t → ⊥
  pub last : c.index ≡ length (R c.thread)

-- the first place where the record is no run of the machine: by position; and then, where all events are steps, the least live thread
abbrev pub ActFailsFirst : Setting → Lists → Place → Type 0
ActFailsFirst setting R c = ((p : ℕ) × ActFailsAt setting R p c) ⊎ ((h : List Stamp) × IsEventList h R × LivesAt setting R (length h) c)

-- what is found: none where the record is a run of the machine, else the first place where it is not
abbrev pub IsActFault : Setting → Lists → Option Place → Type 0
IsActFault setting R None = RunsMachine setting R
IsActFault setting R (Some c) = ActFailsFirst setting R c
