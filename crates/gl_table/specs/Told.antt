-- What some steps tell of a view.
use Rattle.std.specs.Prelude.{ℕ, suc, false, List, [], ◌∷◌}
use Rattle.gl_rule.specs.declared.slot.Slot.{Slot}
use Rattle.gl_rule.specs.declared.slot.Slot.TheVariants as slot
use Rattle.gl_model.specs.declared.event.Event.TheVariants.{Commit as Commits}
use Rattle.gl_model.specs.declared.tx.Tx.{Tx}
use Rattle.gl_model.specs.Entries.{Commit}
use Rattle.gl_model.specs.Records.{variables_of}
use Rattle.gl_draws.specs.Draws.{draw, Entered}
use Rattle.gl_rule.specs.Commits.{paid, drew_commit}
use Rattle.gl_rule.specs.Told.{Seat, Left, Published}
use Rattle.gl_rule.specs.View.{View, Held, Shelf}

-- a value that was owed was written back: the row of x, which was held as h, is y then
abbrev pub PaidLeft : ℕ → Held → Slot → View → List (ℕ × Slot) → Seat → Type 0
PaidLeft x h y v c w = Left (suc x) false (paid v h x y) c w

-- what was put into the slot that was taken last
abbrev pub head_slot : List (ℕ × Slot) → Slot
head_slot [] = slot.Empty
head_slot (x ∷ c) = x.1

-- a commit was published
abbrev pub PublishedTx : Shelf → Tx → Slot → View → List (ℕ × Slot) → ℕ → Seat → Type 0
PublishedTx s tx y v c n w =
    Published s (λ k. Commit k tx) (record { thread = s.thread; event = Commits (variables_of tx) }) y
    (λ k g. drew_commit (variables_of tx) (draw s.thread k (Entered (Commit k tx))) g) v c n w
