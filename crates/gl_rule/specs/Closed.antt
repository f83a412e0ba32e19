-- What is known of the lists of all passes when a table is closed, and when a pass is done.
use Rattle.std.specs.Prelude.{◌≡◌, ◌⊎◌, Bool, ℕ, ℤ, ◌<◌, ◌≤◌, true, false, ◌==◌, if◌then◌else◌, List, [], ◌∷◌, length}
use Rattle.gl_model.specs.declared.event.Stamp.{Stamp}
use Rattle.gl_model.specs.Entries.{Entry, Plain}
use Rattle.gl_model.specs.Form.{At, IsOver, ListForm, Numbered, IsMachineRun}
use Rattle.gl_model.specs.declared.limits.TheConstants.{THREADS}
use Rattle.gl_model.specs.Machine.{Setting}
use Rattle.gl_model.specs.Records.{Lists, IsEventList, PositionsRise}
use Rattle.gl_draws.specs.Cached.{IsLastValue, repeats_of}
use Rattle.gl_draws.specs.Draws.{Draw, DrawAt}
use Rattle.gl_draws.specs.Events.{AreEvents}
use Rattle.gl_draws.specs.Ties.{AreTied}
use Rattle.gl_draws.specs.Verdicts.{DrawsHold}
use Rattle.gl_draws.specs.Refusals.{RefusalsHold}
use Rattle.gl_rule.specs.Bounded.{most_events, most_draws}
use Rattle.gl_rule.specs.Refusals.{ShelfRefusals}
use Rattle.gl_rule.specs.Ring.{LowHolds, ShelfTrims}
use Rattle.gl_rule.specs.View.{Shelf, shelf}

-- the lists of these threads, none for another
abbrev pub lists_in : List Shelf → Lists
lists_in [] t = []
lists_in (s ∷ ss) t = if s.thread == t then s.marked else lists_in ss t

-- what the rule says of all lists together, once nobody holds, owes or waits: `low` is the first segment that is kept
pub record IsClosed (setting : Setting) (low : ℕ) (R : Lists) : Type 0 where
  pub log : List Stamp
  pub draws : ℕ → List Draw
  pub until : ℕ → ℕ → ℕ
  pub trims : List (ℕ × ℕ)
  -- so few are made by all threads together
  pub few_events : length log ≤ most_events
  pub few_draws : (x : ℕ) → length (draws x) ≤ most_draws
  pub events : (t : ℕ) → AreEvents log t (R t)
  pub tied : AreTied R draws
  pub hold : (x : ℕ) → DrawsHold log x (draws x)
  pub refused : (x : ℕ) → RefusalsHold log (until x) x (draws x)
  pub refusals : (t : ℕ) → ShelfRefusals until (shelf t (R t))
  pub lowest : LowHolds low trims
  pub lows : (t : ℕ) → t < THREADS → ShelfTrims trims (shelf t (R t))
  -- the cached entries
  pub repeats : (t i x k : ℕ) (value : ℤ) → At (R t) i (Plain x k true false value false) → IsLastValue (R t) i x value
  pub written_back : (x k : ℕ) (d : Draw) → DrawAt (draws x) k d → repeats_of x k (R d.thread) ≡ d.repeats
  pub beyond : (t : ℕ) → THREADS ≤ t → R t ≡ []
  -- what follows of it: form, listed, numbered, machine
  pub formed : (t : ℕ) → ListForm t (R t)
  pub listed : IsEventList log R
  pub rise : PositionsRise R
  pub numbered : Numbered R
  pub machine : IsMachineRun setting R log

-- the list ends with Over
abbrev pub EndsOver : List Entry → Type 0
EndsOver es = (i : ℕ) × ((e : Entry) × At es i e × IsOver e)

-- a pass is done: its list ends with Over, or it is empty, and the pass has seen that no thread is live
abbrev pub IsDone : List Entry → Bool → Type 0
IsDone es quiet = EndsOver es ⊎ ((es ≡ []) × (quiet ≡ true))

-- the record of these lists: those that are not empty
abbrev pub with_list : ℕ → List Entry → List (ℕ × List Entry) → List (ℕ × List Entry)
with_list t [] rest = rest
with_list t (e ∷ es) rest = (t, e ∷ es) ∷ rest

abbrev pub kept_lists : List Shelf → List (ℕ × List Entry)
kept_lists [] = []
kept_lists (s ∷ ss) = with_list s.thread s.marked (kept_lists ss)
