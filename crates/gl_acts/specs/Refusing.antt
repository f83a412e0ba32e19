-- What the coded state has, and what it refuses.
use Rattle.std.specs.Prelude.{◌≡◌, ℕ, ℤ, pos, ◌+◌, ◌<◌, slice_get, Some}
use Rattle.gl_model.specs.declared.limits.TheConstants.{MONITORS, THREADS}
use Rattle.gl_model.specs.Machine.{Setting}
use Rattle.gl_state.specs.declared.state.Stage.TheVariants as stage
use Rattle.gl_state.specs.Acts.{HasRoom, stage_of}
use Rattle.gl_state.specs.Entering.{monitor_of}
use Rattle.gl_state.specs.ListView.{ListView}

-- thread t has entered the monitor, and has not left it as often
abbrev pub HasEntered : ListView → ℕ → ℕ → Type 0
HasEntered l t o = (depth : ℕ) × (monitor_of l o ≡ Some (t, depth + 1))

-- the value is a monitor that thread t is not in
abbrev pub IsNotOwner : ListView → ℕ → ℤ → Type 0
IsNotOwner l t value = (o : ℕ) × (value ≡ pos o) × (o < MONITORS) × ((depth : ℕ) → monitor_of l o ≡ Some (t, depth) → ⊥)

-- the value is a class whose next object does not fit
abbrev pub IsFull : Setting → ListView → ℤ → Type 0
IsFull setting l value =
    (c : ℕ) × (value ≡ pos c) × ((fields : ℕ × ℕ) × (slice_get setting.classes c ≡ Some fields) × (HasRoom l fields → ⊥))

-- the value is a thread that was never forked
abbrev pub IsUnforked : ListView → ℤ → Type 0
IsUnforked l value = (u : ℕ) × (value ≡ pos u) × (u < THREADS) × (stage_of l u ≡ stage.Never)
