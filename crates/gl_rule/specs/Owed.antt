-- Owed words. A cached write changes neither the row nor the draws until it is written back: then it is a repeat of its draw. Until then
-- the pass owes it, and behind the write that it repeats nobody has accessed the variable.
use Rattle.std.specs.Prelude.{◌≡◌, ℕ, ℤ, true, false, ◌==◌, not, List, [], ◌∷◌, ◌++◌, Contains, Some, ◌⊎◌}
use Rattle.std.specs.List.{filter}
use Rattle.gl_model.specs.Entries.{Plain}
pub use Rattle.gl_draws.specs.Cached.{repeat_value, repeats_of}
use Rattle.gl_draws.specs.Draws.{Entered, Draw, DrawAt, last_write}
use Rattle.gl_draws.specs.Repeated.{IsCalm}
use Rattle.gl_draws.specs.Ties.{last_position}
use Rattle.gl_rule.specs.View.{Shelf}

-- the variable's last write is the thread's own, and the thread has made no event since
pub record OwedOne (draws : ℕ → List Draw) (shelves : List Shelf) (x : ℕ) : Type 0 where
  pub shelf : Shelf
  pub one : shelves ≡ shelf ∷ []
  pub draw : Draw
  pub last : last_write x (draws x) ≡ Some draw
  pub own : draw.thread ≡ shelf.thread
  pub block : last_position shelf.marked ≡ Some draw.block
  pub number : ℕ
  pub value : ℤ
  pub plain : draw.what ≡ Entered (Plain x number false true value false)

-- these values were not written back yet
pub record IsPending (draws : ℕ → List Draw) (owed : List (ℕ × ℤ)) (x : ℕ) (d : Draw) (pending : List ℤ) : Type 0 where
  pub value : ℤ
  pub rest : List ℤ
  pub is : pending ≡ value ∷ rest
  pub owes : Contains owed (x, value)
  pub last : last_write x (draws x) ≡ Some d

-- x has this value now
abbrev pub with_owed : ℕ → ℤ → List (ℕ × ℤ) → List (ℕ × ℤ)
with_owed x value owed = (x, value) ∷ filter (λ (o : ℕ × ℤ). not (o.0 == x)) owed

pub record OwedFits (draws : ℕ → List Draw) (owed : List (ℕ × ℤ)) (shelves : List Shelf) : Type 0 where
  -- behind the write that is owed no access was performed
  pub calm : (x : ℕ) (v : ℤ) → Contains owed (x, v) → IsCalm x (draws x)
  -- what is owed is the value of the last repeat
  pub late : (x : ℕ) (v : ℤ) → Contains owed (x, v) → (s : Shelf) → Contains shelves s → (k : ℕ) (d : Draw) → DrawAt (draws x) k d
      → last_write x (draws x) ≡ Some d → d.thread ≡ s.thread → (rest : List ℤ) × (repeats_of x k s.marked ≡ (v ∷ rest) ++ d.repeats)
  pub once : (x : ℕ) (v u : ℤ) → Contains owed (x, v) → Contains owed (x, u) → v ≡ u
  pub owes : (x : ℕ) (value : ℤ) → Contains owed (x, value) → OwedOne draws shelves x
  pub tied : (s : Shelf) → Contains shelves s → (x k : ℕ) (d : Draw) → DrawAt (draws x) k d → d.thread ≡ s.thread
      → (pending : List ℤ) × (repeats_of x k s.marked ≡ pending ++ d.repeats) × ((pending ≡ []) ⊎ IsPending draws owed x d pending)
