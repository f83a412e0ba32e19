-- Whether an event is a step of the machine from the states that the coded state stands for.
use Rattle.std.specs.Prelude.{◌≡◌, ℕ, ℤ, ◌<◌, Bool, List, MatchBool}
use Rattle.gl_model.specs.declared.event.Act.{Act}
use Rattle.gl_model.specs.declared.event.Event.TheVariants.{Act as Does, Commit}
use Rattle.gl_model.specs.declared.event.Stamp.{Stamp}
use Rattle.gl_model.specs.declared.limits.TheConstants.{MONITORS}
use Rattle.gl_model.specs.Machine.{Setting, State, Step}
use Rattle.gl_state.specs.Entering.{IsShallow}
use Rattle.gl_state.specs.ListView.{ListView}
use Rattle.gl_state.specs.States.{IsStateOf}

-- the answer tells whether it holds
abbrev pub Tells : Bool → Type 0 → Type 0
Tells answer P = MatchBool answer P (¬ P)

-- thread t does this act
abbrev pub act_by : ℕ → Act → Stamp
act_by t act = record { thread = t; event = Does act }

-- thread t commits, with these variables
abbrev pub commit_by : ℕ → List ℕ → Stamp
commit_by t xs = record { thread = t; event = Commit xs }

-- from each state that old stands for, the event with this value is a step, to a state that new stands for
abbrev pub IsStepFrom : Setting → Stamp → ℤ → ListView → ListView → Type 0
IsStepFrom setting s value old new = (now : State) → IsStateOf old now → (next : State) × Step setting now s value next × IsStateOf new next

-- from no state that old stands for is it a step
abbrev pub IsNoStepFrom : Setting → Stamp → ℤ → ListView → Type 0
IsNoStepFrom setting s value old = (now next : State) → IsStateOf old now → Step setting now s value next → ⊥

-- the answer tells which of the two; where it is no step the coded state stays
abbrev pub Applies : Setting → Stamp → ℤ → ListView → ListView → Bool → Type 0
Applies setting s value old new made =
    MatchBool made (IsStepFrom setting s value old new) (IsNoStepFrom setting s value old × (new ≡ old))

-- no monitor was entered so often that it could not be counted once more
abbrev pub AreShallow : ListView → Type 0
AreShallow l = (o : ℕ) → o < MONITORS → IsShallow l o
