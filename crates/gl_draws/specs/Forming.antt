-- The form of a thread's list while it grows, and what the next entry has to be.
use Rattle.std.specs.Prelude.{◌≡◌, ℕ, ℤ, suc, ◌+◌, ◌<◌, ◌==◌, if◌then◌else◌, List, [], ◌∷◌, length, Bool, false, true, ◌↔◌}
use Rattle.gl_model.specs.declared.event.Stamp.{Stamp}
use Rattle.gl_model.specs.Entries.{Entry, Plain, Trim}
use Rattle.gl_model.specs.Form.{At, EntryForm, IsTrim, IsBegin, IsEnd, IsOver, HasRight}
use Rattle.gl_draws.specs.Cached.{IsLastValue}

-- how many events thread t made
abbrev pub events_by : ℕ → List Stamp → ℕ
events_by t [] = 0
events_by t (x ∷ xs) = if x.thread == t then suc (events_by t xs) else events_by t xs

-- the form of a list while it grows; that positions and numbers rise is said of events and of draws
pub record IsFormed (t : ℕ) (es : List Entry) : Type 0 where
  pub well_formed : (i : ℕ) (e : Entry) → At es i e → EntryForm t e
  pub begins : (i : ℕ) (e : Entry) → At es i e → (IsTrim e → ⊥) → ((j : ℕ) (f : Entry) → At es j f → j < i → IsTrim f) → IsBegin e
  pub lows_rise : (i j low high : ℕ) → At es i (Trim low) → At es j (Trim high) → i < j → low < high
  pub over_after_end : (i : ℕ) (e f : Entry) → At es i e → At es (i + 1) f → IsEnd e ↔ IsOver f
  pub nothing_after : (i : ℕ) (e : Entry) → At es i e → IsOver e → length es ≡ i + 1
  pub cached : (i x k : ℕ) (write : Bool) (value : ℤ) → At es i (Plain x k true write value false) → HasRight es i x k write
  pub repeats : (i x k : ℕ) (value : ℤ) → At es i (Plain x k true false value false) → IsLastValue es i x value

-- what an entry has to be to be stored next by thread t, which has stored es
pub record MayStore (t : ℕ) (es : List Entry) (e : Entry) : Type 0 where
  pub well_formed : EntryForm t e
  pub begins : (IsTrim e → ⊥) → ((j : ℕ) (f : Entry) → At es j f → IsTrim f) → IsBegin e
  pub lows : (i low high : ℕ) → At es i (Trim low) → e ≡ Trim high → low < high
  pub after_end : (i : ℕ) (f : Entry) → At es i f → length es ≡ i + 1 → IsEnd f ↔ IsOver e
  pub open_still : (i : ℕ) (f : Entry) → At es i f → IsOver f → ⊥
  pub cached : (x k : ℕ) (write : Bool) (value : ℤ) → e ≡ Plain x k true write value false → HasRight es (length es) x k write
  pub repeats : (x k : ℕ) (value : ℤ) → e ≡ Plain x k true false value false → IsLastValue es (length es) x value
