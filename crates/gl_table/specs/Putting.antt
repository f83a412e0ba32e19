-- What is asked of an object that is put back.
use Rattle.std.specs.Prelude.{◌≡◌, ◌≢◌, ℕ, suc, Option, ℤ, ◌%◌, Bool, true, false, Contains, List, [], ◌∷◌, ◌++◌, ◌+◌, ◌==◌, if◌then◌else◌}
use Rattle.gl_model.specs.Machine.{Setting}
use Rattle.gl_rule.specs.declared.slot.Slot.{Slot}
use Rattle.gl_rule.specs.declared.slot.Slot.TheVariants as slot
use Rattle.gl_model.specs.declared.event.Act.{Act}
use Rattle.gl_model.specs.declared.event.Event.TheVariants.{Act as Does}
use Rattle.gl_model.specs.declared.event.Stamp.{Stamp}
use Rattle.gl_model.specs.Entries.{Entry, Sync, Plain}
use Rattle.gl_rule.specs.Cells.{packed}
use Rattle.gl_state.specs.ListView.{ListView}
use Rattle.gl_rule.specs.Objects.{Key, capacity}
use Rattle.gl_table.specs.PassView.{PassView, view_of, shelf_of, after, after_storing}
use Rattle.gl_rule.specs.Fitting.{MayLeave, MayPublish, MayMark, MayOpen, MayStoreWord, SaysQuiet}
use Rattle.gl_rule.specs.View.{View, Held, Shelf, shelf, left, marked, filled, published}
use Rattle.gl_table.specs.CaughtUp.{block_of}
use Rattle.gl_table.specs.Says.{no_held}
use Rattle.gl_draws.specs.Draws.{draw, Entered}
use Rattle.gl_model.specs.declared.tx.Tx.{Tx}
use Rattle.gl_model.specs.declared.tx.Why.{Why}
use Rattle.gl_model.specs.declared.tx.Why.TheVariants.{Changed, Raised}
use Rattle.gl_rule.specs.Commits.{MayPay, MayChange, MayRefuse, paid}
use Rattle.gl_rule.specs.Told.{what_of}
use Rattle.gl_model.specs.declared.row.Row.{Row}
use Rattle.gl_model.specs.declared.row.Question.{Question}

-- object k is held, and may go back as y; q says whether the list's state is quiet
pub record MayPutBack (setting : Setting) (s : Shelf) (v : View) (k : ℕ) (y : Slot) (q : Bool) : Type 0 where
  pub held : Held
  pub has : Contains v.held held
  pub object : held.object ≡ k
  pub may : MayLeave setting s v held y
  pub quiet : q ≡ true → SaysQuiet held.object held.taken

-- the pass holds the list and has seen its tail, whose cell this is, and that there is room; and no word was stored yet
pub record MayPutWords (key : Key) (v : View) (cell : ℕ) : Type 0 where
  pub held : Held
  pub tail : ℕ
  pub may : MayStoreWord key v held tail
  pub here : cell ≡ tail % capacity key
  pub first : v.stored ≡ []

-- what is asked of an act that is published
pub record MayPublishAct (key : Key) (p : PassView) (act : Act) (value : ℤ) (state : ListView) : Type 0 where
  pub held : Held
  pub old : ListView
  pub may : MayPublish key (shelf_of p) (filled (view_of p) (packed (record { thread = p.own.id; event = Does act }))) held old
      state (λ n. Sync n act value) (record { thread = p.own.id; event = Does act }) value
  pub tail : may.tail ≡ p.seen

-- object k is none of these
abbrev pub DoesNotHold : List Held → ℕ → Type 0
DoesNotHold held k = (h : Held) → Contains held h → h.object ≢ k

-- the first held object with this number
abbrev pub held_at : ℕ → List Held → Held
held_at k [] = no_held
held_at k (h ∷ hs) = if h.object == k then h else held_at k hs

-- what is asked of a plain access that is marked
pub record MayMarkPlain (setting : Setting) (p : PassView) (x : ℕ) (write : Bool) (value : ℤ) (raised : Bool) : Type 0 where
  pub taken : Row
  pub question : Question
  pub may : MayMark setting (shelf_of p) (view_of p) (held_at (x + 1) p.own.held) x taken (block_of p.own.mine) question write value raised

-- the pass after it
abbrev pub marked_plain : PassView → ℕ → ℕ → Bool → ℤ → Bool → PassView
marked_plain p x n write value raised =
    let e : Entry = Plain x n false write value raised in
    after_storing p (marked (view_of p) (shelf p.own.id (p.own.mine ++ e ∷ [])) p.own.drawn (held_at (x + 1) p.own.held)
    (draw p.own.id (block_of p.own.mine) (Entered e)))

-- the pass after an act was published at n, by which the list's state became this
abbrev pub published_act : PassView → Act → ℤ → ℕ → ListView → PassView
published_act p act value n state =
    let x : Stamp = record { thread = p.own.id; event = Does act } in
    after_storing p (published (filled (view_of p) (packed x)) p.own.id p.own.mine (Sync n act value) n x (slot.List state) (λ g. g.drew))

-- what is asked of a number that is drawn on x for a look with this word, or for the end of an attempt
pub record MayOpenOn (p : PassView) (x : ℕ) (look : Option ℤ) : Type 0 where
  pub taken : Row
  pub may : MayOpen (shelf_of p) (view_of p) (held_at (x + 1) p.own.held) x taken (block_of p.own.mine) look

-- the pass after it drew n
abbrev pub opened : PassView → ℕ → ℕ → Option ℤ → PassView
opened p x n look = after p (marked (view_of p) (shelf_of p) (p.own.drawn ++ record { var = x; nth = n; look = look } ∷ [])
    (held_at (x + 1) p.own.held) (draw p.own.id (block_of p.own.mine) (what_of look)))

-- the held row of x, and the value that the pass owes it
pub record MayPayOn (p : PassView) (x : ℕ) (row : Row) : Type 0 where
  pub taken : Row
  pub value : ℤ
  pub may : MayPay (view_of p) (held_at (x + 1) p.own.held) x taken value
  pub is : row ≡ record taken { value = value }

-- the pass after it put the row back with the value
abbrev pub paid_back : PassView → ℕ → Row → PassView
paid_back p x row = after p (left (paid (view_of p) (held_at (x + 1) p.own.held) x (slot.Row row)) (suc x) false)

-- what is asked of an attempt that is dropped
abbrev pub MayAbortAs : Shelf → View → Tx → Why → Type 0
MayAbortAs s v tx (Changed var read found) = (q : ℕ) × MayChange s v tx var read found q
MayAbortAs s v tx (Raised var) = (q : ℕ) × (m : ℕ) × (question : ℕ → Question)
    × ((setting : Setting) → MayRefuse setting s v tx var q m question)

abbrev pub MayAbort : PassView → Tx → Why → Type 0
MayAbort p tx why = MayAbortAs (shelf_of p) (view_of p) tx why
