-- The flat history: a record laid out block by block, which has to be a run of the machine with one memory. It is this project's own.
use Rattle.std.specs.Prelude.{◌≡◌, ℕ, ℤ, pos, ◌<◌, ◌≤◌, true, false, List, [], ◌∷◌, Contains, slice_get, Some, ◌⊎◌, ◌↔◌}
use Rattle.gl_model.specs.declared.event.Event.TheVariants.{Act as Does}
use Rattle.gl_model.specs.Entries.{Entry}
use Rattle.gl_model.specs.Entries.{Sync, Commit, Plain, Abort, Trim, Over}
use Rattle.gl_model.specs.declared.tx.Pair.{Pair}
use Rattle.gl_model.specs.declared.tx.Look.{Look}
use Rattle.gl_model.specs.declared.tx.Why.TheVariants.{Changed, Raised}
use Rattle.gl_model.specs.Machine.{Setting, State, Step, Running, start, with_at}
use Rattle.gl_model.specs.Records.{Lists, Place, EntryAt, InProgramOrder, IsBlockOf, NumberOn}

-- an entry that is laid out: an event, or a performed plain access
abbrev pub IsLaidOut : Entry → Type 0
IsLaidOut (Sync at act value) = Unit {0}
IsLaidOut (Commit at tx) = Unit {0}
IsLaidOut (Plain var nth cached write value raised) = raised ≡ false
IsLaidOut (Abort tx why) = ⊥
IsLaidOut (Trim low) = ⊥
IsLaidOut (Over ending) = ⊥

-- by block, and within a block in the order of the thread
pub record InFlatOrder (R : Lists) (c d : Place) : Type 0 where
  pub first : ℕ
  pub second : ℕ
  pub of_first : IsBlockOf R c first
  pub of_second : IsBlockOf R d second
  pub order : (first < second) ⊎ ((first ≡ second) × InProgramOrder c d)

-- the record laid out: each such entry once, block by block in list order
pub record IsFlat (R : Lists) (cs : List Place) : Type 0 where
  pub each : (c : Place) → Contains cs c ↔ ((e : Entry) × EntryAt R c e × IsLaidOut e)
  pub in_order : (i j : ℕ) (c d : Place) → slice_get cs i ≡ Some c → slice_get cs j ≡ Some d → i < j → InFlatOrder R c d

-- the words after these writes
abbrev pub stored : (ℕ → ℤ) → List Pair → ℕ → ℤ
stored words [] = words
stored words (w ∷ ws) = stored (with_at words w.var w.value) ws

-- each look has the value of its word
abbrev pub LooksAgree : (ℕ → ℤ) → List Look → Type 0
LooksAgree words looks = (k : ℕ) (l : Look) → slice_get looks k ≡ Some l → l.value ≡ words l.var

-- the whole machine: the synchronisation part, and a word for each variable
pub record Memory : Type 0 where
  pub state : State
  pub words : ℕ → ℤ

-- thread t's entry is a step of the machine from one memory to another
abbrev pub IsStep : Setting → Memory → ℕ → Entry → Memory → Type 0
IsStep setting old t (Sync at act value) new =
    Step setting old.state (record { thread = t; event = Does act }) value new.state × (new.words ≡ old.words)
IsStep setting old t (Commit at tx) new =
    (old.state.threads t ≡ Running) × LooksAgree old.words tx.looks × (new ≡ record old { words = stored old.words tx.writes })
IsStep setting old t (Plain var nth cached true value raised) new =
    (old.state.threads t ≡ Running) × (new ≡ record old { words = with_at old.words var value })
IsStep setting old t (Plain var nth cached false value raised) new =
    (old.state.threads t ≡ Running) × (value ≡ old.words var) × (new ≡ old)
IsStep setting old t (Abort tx why) new = ⊥
IsStep setting old t (Trim low) new = ⊥
IsStep setting old t (Over ending) new = ⊥

-- the entries at these places, one after another, are a run of the machine
abbrev pub IsRun : Setting → Lists → Memory → List Place → Memory → Type 0
IsRun setting R old [] new = new ≡ old
IsRun setting R old (c ∷ cs) new =
    (e : Entry) × EntryAt R c e × ((mid : Memory) × IsStep setting old c.thread e mid × IsRun setting R mid cs new)

-- the entry is a performed write of this value to x
abbrev pub WritesValue : Entry → ℕ → ℤ → Type 0
WritesValue (Plain var nth cached write value raised) x v = (raised ≡ false) × (var ≡ x) × (write ≡ true) × (value ≡ v)
WritesValue (Commit at tx) x v = Contains tx.writes (record { var = x; value = v })
WritesValue (Sync at act value) x v = ⊥
WritesValue (Abort tx why) x v = ⊥
WritesValue (Trim low) x v = ⊥
WritesValue (Over ending) x v = ⊥

-- a performed write of x has this number and this value
abbrev pub IsWritten : Lists → ℕ → ℕ → ℤ → Type 0
IsWritten R x number v = (c : Place) × ((e : Entry) × EntryAt R c e × NumberOn e x number × WritesValue e x v)

-- v is what a performed write with the greatest number below this one wrote, or 0 where there is none
abbrev pub IsWordBelow : Lists → ℕ → ℕ → ℤ → Type 0
IsWordBelow R x number v =
    ((k : ℕ) × (k < number) × IsWritten R x k v × ((j : ℕ) (u : ℤ) → j < number → IsWritten R x j u → j ≤ k)) ⊎
    ((v ≡ pos 0) × ((j : ℕ) (u : ℤ) → j < number → IsWritten R x j u → ⊥))

-- each look has the value of the last performed write with a number below its own
abbrev pub LooksReadRight : Lists → List Look → Type 0
LooksReadRight R looks = (k : ℕ) (l : Look) → slice_get looks k ≡ Some l → IsWordBelow R l.var l.nth l.value

-- so has each look of a commit and of an attempt that was dropped, and so has what a changed attempt found
abbrev pub ReadsRight : Lists → Entry → Type 0
ReadsRight R (Commit at tx) = LooksReadRight R tx.looks
ReadsRight R (Abort tx (Changed var read found)) =
    LooksReadRight R tx.looks ×
    ((number : ℕ) → Contains tx.numbers (record { var = var; nth = number }) → IsWordBelow R var number found)
ReadsRight R (Abort tx (Raised var)) = LooksReadRight R tx.looks
ReadsRight R (Sync at act value) = Unit {0}
ReadsRight R (Plain var nth cached write value raised) = Unit {0}
ReadsRight R (Trim low) = Unit {0}
ReadsRight R (Over ending) = Unit {0}

-- legal: the record, laid out, is one run of the machine from its start, with the values that the entries carry
pub record Legal (setting : Setting) (R : Lists) : Type 0 where
  pub history : List Place
  pub flat : IsFlat R history
  pub after : Memory
  pub run : IsRun setting R (record { state = start setting; words = λ _. pos 0 }) history after
  pub found : (c : Place) (e : Entry) → EntryAt R c e → ReadsRight R e
