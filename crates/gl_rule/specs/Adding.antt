-- What a pass may add to its list without a step of the table: the end of the list, an attempt that is dropped, a cached access. The
-- pass's next step records it first, and its view is then as here.
use Rattle.std.specs.Prelude.{◌≡◌, ℕ, ℤ, Bool, true, false, ◌+◌, List, [], ◌∷◌, length, Some}
use Rattle.gl_model.specs.declared.row.Question.{Question}
use Rattle.gl_model.specs.declared.tx.Why.TheVariants.{Changed, Raised}
use Rattle.gl_model.specs.Entries.{Entry, Sync, Commit, Plain, Abort, Trim, Over}
use Rattle.gl_model.specs.Form.{At, IsEnd, HasRight}
use Rattle.gl_model.specs.Records.{variables_of}
use Rattle.gl_draws.specs.Draws.{Entered, Looked, draw}
use Rattle.gl_rule.specs.Commits.{MayChange, MayRefuse, dropped, stored, cached_in}
use Rattle.gl_draws.specs.Ties.{last_position}
use Rattle.gl_draws.specs.Cached.{IsLastValue}
use Rattle.gl_model.specs.Machine.{Setting}
use Rattle.gl_rule.specs.View.{View, Shelf}

-- the last entry is the thread's End
pub record MayEnd (s : Shelf) : Type 0 where
  pub index : ℕ
  pub last : length s.marked ≡ index + 1
  pub entry : Entry
  pub there : At s.marked index entry
  pub is : IsEnd entry

-- the right to repeat the entry with the number k on x
pub record MayCache (s : Shelf) (v : View) (x k : ℕ) (write : Bool) (value : ℤ) : Type 0 where
  pub held : v.held ≡ []
  pub right : HasRight s.marked (length s.marked) x k write
  -- a read has the value of the last performed access
  pub word : write ≡ false → IsLastValue s.marked (length s.marked) x value
  pub position : ℕ
  pub block : last_position s.marked ≡ Some position
  pub goes_on : (i : ℕ) (e : Entry) → At s.marked i e → IsEnd e → ⊥

-- the entry may be added to the view v, which becomes u
abbrev pub MayAdd : View → Entry → View → Type 0
MayAdd v (Sync at act value) u = ⊥
MayAdd v (Commit at tx) u = ⊥
MayAdd v (Plain x k false write value raised) u = ⊥
MayAdd v (Plain x k true write value true) u = ⊥
MayAdd v (Plain x k true write value false) u = (s : Shelf) × (v.shelves ≡ s ∷ []) × MayCache s v x k write value
    × (u ≡ cached_in v s.thread s.marked x k write value)
MayAdd v (Abort tx (Changed var read found)) u =
    (s : Shelf) × (v.shelves ≡ s ∷ [])
    × ((p : ℕ) × MayChange s v tx var read found p
    × (u ≡ dropped v s.thread s.marked (Abort tx (Changed var read found)) (var ∷ []) (draw s.thread p (Looked found))))
MayAdd v (Abort tx (Raised var)) u =
    (s : Shelf) × (v.shelves ≡ s ∷ [])
    × ((p : ℕ) × (m : ℕ) × (question : ℕ → Question) × ((setting : Setting) → MayRefuse setting s v tx var p m question)
    × (u ≡ dropped v s.thread s.marked (Abort tx (Raised var)) (variables_of tx) (draw s.thread p (Entered (Abort tx (Raised var))))))
MayAdd v (Trim low) u = ⊥
MayAdd v (Over ending) u = (s : Shelf) × (v.shelves ≡ s ∷ []) × MayEnd s × (u ≡ stored v s.thread s.marked (Over ending))

-- one after another
abbrev pub Adding : View → List Entry → View → Type 0
Adding v [] u = u ≡ v
Adding v (e ∷ more) u = (mid : View) × MayAdd v e mid × Adding mid more u
