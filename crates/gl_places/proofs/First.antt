-- There is one first place.
use Rattle.std.proofs.Common.{◌≡◌, ℕ, ◌<◌, sym, inl, inr, refl}
use Rattle.std.specs.Prelude.{◌⊎◌}
use Rattle.std.proofs.lemmas.Bool.{cases_order}
use Rattle.gl_model.specs.Records.{Place}
use Rattle.gl_places.specs.Places.{Before, IsFirstBy}

-- the place of a thread with an index
abbrev at_place : ℕ → ℕ → Place
at_place t i = record { thread = t; index = i }

-- places with one thread and one index are one place
same_place : (c d : Place) → c.thread ≡ d.thread → c.index ≡ d.index → c ≡ d
same_place c d threads indices = together c.thread d.thread c.index d.index threads indices where
  together : (t u i j : ℕ) → t ≡ u → i ≡ j → at_place t i ≡ at_place u j
  together t u i j one other = rw (one, other) refl

-- there is at most one first place where something fails
pub first_once : (Fails : Place → Type 0) (c d : Place) → IsFirstBy Before Fails c → IsFirstBy Before Fails d → c ≡ d
first_once Fails c d one other = by_threads (cases_order c.thread d.thread) where
  by_indices : c.thread ≡ d.thread → (c.index ≡ d.index) ⊎ ((c.index < d.index) ⊎ (d.index < c.index)) → c ≡ d
  by_indices threads (inl same) = same_place c d threads same
  by_indices threads (inr (inl less)) = absurd (other.1 c one.0 (inr (threads, less)))
  by_indices threads (inr (inr less)) = absurd (one.1 d other.0 (inr (sym threads, less)))

  by_threads : (c.thread ≡ d.thread) ⊎ ((c.thread < d.thread) ⊎ (d.thread < c.thread)) → c ≡ d
  by_threads (inl same) = by_indices same (cases_order c.index d.index)
  by_threads (inr (inl less)) = absurd (other.1 c one.0 (inl less))
  by_threads (inr (inr less)) = absurd (one.1 d other.0 (inl less))
