-- Turns: a turn is free, or names the pass that holds the object.
use Rattle.std.specs.Prelude.{◌≡◌, ◌≢◌, ℕ, ◌+◌, ◌<◌, ◌≤◌, List, [], ◌∷◌}
use Rattle.std.specs.List.{All}
use mathlib.Core.Option.{some}
use lib.ListN.{get_elem?}
use Rattle.gl_model.specs.declared.limits.TheConstants.{THREADS}
use Rattle.gl_rule.specs.Objects.{objects}
use Rattle.gl_rule.specs.View.{View, Held, Shelf, HasObject}

-- an object that seat j holds: its turn names the seat's one thread
pub record HeldOne (turn holder : ℕ → ℕ) (j : ℕ) (shelves : List Shelf) (h : Held) : Type 0 where
  pub named : h.object < objects
  pub here : holder h.object ≡ j
  pub shelf : Shelf
  pub one : shelves ≡ shelf ∷ []
  pub busy : turn h.object ≡ shelf.thread + 1

-- so is each that it holds
pub record TurnsFit (turn holder : ℕ → ℕ) (j : ℕ) (v : View) : Type 0 where
  pub held : All (HeldOne turn holder j v.shelves) v.held

-- a turn that is not free is held
pub record TurnsHold (turn holder : ℕ → ℕ) (views : List View) : Type 0 where
  pub named : (k : ℕ) → k < objects → turn k ≤ THREADS
  pub busy : (k : ℕ) → k < objects → turn k ≢ 0 → (v : View) × (get_elem? views (holder k) ≡ some v) × HasObject v k
