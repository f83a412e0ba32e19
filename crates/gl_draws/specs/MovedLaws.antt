-- The laws of Infos that were walked on, and of who owns a monitor while a thread makes no event.
use Rattle.std.specs.Prelude.{◌≡◌, ℕ, ◌<◌, List, take, ◌↔◌}
use Rattle.gl_model.specs.declared.event.Stamp.{Stamp}
use Rattle.gl_model.specs.declared.row.Question.{Question}
use Rattle.gl_model.specs.declared.row.Row.{Row}
use Rattle.gl_model.specs.Edges.{EventAt}
use Rattle.gl_model.specs.Infos.{AreLeastOwned}
use Rattle.gl_model.specs.Machine.{Setting, State, Allows}
use Rattle.gl_draws.specs.Draws.{Draw}
use Rattle.gl_draws.specs.RowFacts.{RowStands, SomeFails}
use Rattle.gl_draws.specs.Moved.{IsRowMoved}

-- a row whose Infos were walked on goes on to stand
abbrev pub MovedRowsStand : Type 0
MovedRowsStand = (setting : Setting) (h : List Stamp) (x : ℕ) (ds : List Draw) (old new : Row) → IsRowMoved h old new
    → RowStands setting h x ds old → RowStands setting h x ds new

-- and fails the same tests
abbrev pub MovedRowsFail : Type 0
MovedRowsFail = (h : List Stamp) (old new : Row) (question : Question) → IsRowMoved h old new
    → SomeFails h new question ↔ SomeFails h old question

-- behind the first k events, where all of thread t's events are among them, its least owned monitors are those of now
abbrev pub OwnersStay : Type 0
OwnersStay =
    (setting : Setting) (h : List Stamp) (now : State) → Allows setting h now → (k t : ℕ)
    → ((p : ℕ) (s : Stamp) → EventAt h p s → s.thread ≡ t → p < k) →
    (earlier : State) × Allows setting (take k h) earlier × ((held : List ℕ) → AreLeastOwned now t held → AreLeastOwned earlier t held)
