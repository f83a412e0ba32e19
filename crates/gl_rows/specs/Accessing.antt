-- What a checked access asks of its pass, and does.
use Rattle.std.specs.Prelude.{◌≡◌, ◌↔◌, ◌⊎◌, ℕ, ℤ, suc, ◌<◌, true, false, pos, Bool, if◌then◌else◌, List, [], ◌∷◌, ◌++◌, ◌+◌, ◌*◌, length, Option, Some, None, Contains}
use Rattle.std.specs.Option.{is_some}
use Rattle.gl_model.specs.declared.event.Stamp.{Stamp}
use Rattle.gl_model.specs.declared.limits.TheConstants.{THREADS}
use Rattle.gl_model.specs.declared.row.Info.{Info}
use Rattle.gl_model.specs.declared.row.Row.{Row}
use Rattle.gl_model.specs.declared.row.Question.{Question}
use Rattle.gl_model.specs.Entries.{Plain}
use Rattle.gl_model.specs.Machine.{Setting}
use Rattle.gl_draws.specs.RowFacts.{IsWithin, SomeFails}
use Rattle.gl_draws.specs.Ties.{counted}
use Rattle.gl_judge.specs.Conflicting.{Keeps, Conflicts}
use Rattle.gl_judge.specs.Noted.{IsNoted}
use Rattle.gl_rows.specs.declared.accessing.PlainAccess.{PlainAccess}
use Rattle.gl_rows.specs.declared.accessing.Seen.{Seen}
use Rattle.gl_rows.specs.declared.accessing.Seen.TheVariants.{Value, Raised}
use Rattle.gl_rule.specs.declared.slot.Slot.TheVariants as slot
use Rattle.gl_rule.specs.Fitting.{IsFitting, InfosStand}
use Rattle.gl_rule.specs.Lives.{Running, life_of}
use Rattle.gl_rule.specs.Levels.{levels_of, AreLeastEntered}
use Rattle.gl_rule.specs.Values.{InRow}
use Rattle.gl_rule.specs.View.{Taken, moved, with_loads}
use Rattle.gl_shortcut.specs.declared.cuts.Cuts.{Cuts}
use Rattle.gl_shortcut.specs.Surely.{SayYesSurely}
use Rattle.gl_table.specs.PassView.{PassView, Own, shelf_of}
use Rattle.gl_table.specs.TableView.{TableView}
use Rattle.gl_rows.specs.Costs.{WalkCosts}
use Rattle.gl_rows.specs.Walks.{placed_from}
use Rattle.gl_rule.specs.Bounded.{most_entries}

-- the pass is of this table, holds nothing, waits for no entry, does not owe the variable, has room for an entry, and its thread runs
pub record MayAccess (z : TableView) (p : PassView) (x : ℕ) : Type 0 where
  pub table : p.own.table ≡ z.id
  pub held : p.own.held ≡ []
  pub drawn : p.own.drawn ≡ []
  pub owed : (o : ℕ × ℤ) → Contains p.own.owed o → o.0 ≡ x → ⊥
  pub spare : 0 < p.spare
  pub few : counted p.own.mine < most_entries
  pub runs : life_of p.own.mine ≡ Running

-- what an access to the row does, once it is judged: a raised read has the value 0
abbrev pub access_of : Row → Option ℤ → Bool → PlainAccess
access_of row (Some value) raised = record { write = true; value = value; raised = raised }
access_of row None raised = record { write = false; value = (if raised then pos 0 else row.value); raised = raised }

-- the row after the access: as it was where it is raised, else with the access noted at the position, and its value
abbrev pub RowAfter : Row → PlainAccess → Question → ℕ → Row → Type 0
RowAfter old a q at new = ((a.raised ≡ true) × (new ≡ old))
    ⊎ ((a.raised ≡ false) × ((noted : Row) × IsNoted old q at noted × (new ≡ record noted { value = a.value })))

abbrev pub IsSeen : PlainAccess → ℕ → Seen → Type 0
IsSeen a n (Value v) = (a.raised ≡ false) × (v ≡ a.value)
IsSeen a n (Raised nth) = (a.raised ≡ true) × (nth ≡ n)

abbrev pub is_raised : Seen → Bool
is_raised (Value v) = false
is_raised (Raised nth) = true

-- the value of the access's entry: the value that was read, or 0 where the read was raised; of a write always the value that it has
abbrev pub value_told : Option ℤ → Seen → ℤ
value_told (Some value) s = value
value_told None (Value v) = v
value_told None (Raised nth) = pos 0

-- the number in the answer, where it has one, is this
abbrev pub HasNumber : ℕ → Seen → Type 0
HasNumber n (Value v) = Unit {0}
HasNumber n (Raised nth) = nth ≡ n

-- an entry more, of this access, and nothing else changed
pub record HasEntry (x : ℕ) (write : Option ℤ) (old : Own) (s : Seen) (new : Own) : Type 0 where
  pub number : ℕ
  pub numbered : HasNumber number s
  pub own : new ≡ record old { mine = old.mine ++ Plain x number false (is_some write) (value_told write s) (is_raised s) ∷ [] }

-- a performed read answers the row's word, a performed write the value written
abbrev pub Answers : Row → Option ℤ → Seen → Type 0
Answers row None (Value v) = v ≡ row.value
Answers row (Some value) (Value v) = v ≡ value
Answers row write (Raised nth) = Unit {0}

-- the question that a plain access asks, as far as the test of an Info looks at it: what its thread owns is left out
abbrev pub question_of : Own → Option ℤ → Question
question_of o write = record { thread = o.id; write = is_some write; commit = None; held = [] }

-- the further events that the pass knows are those from an Info of the row on, up to the last tail that it saw, each of them once; or none
pub record LoadsOnce (row : Row) (p q : PassView) : Type 0 where
  pub from : ℕ
  pub events : List Stamp
  pub known : q.known ≡ p.known ++ placed_from from events
  pub ends : from + length events ≡ q.seen
  -- five words were loaded of each, and six other steps made: two to take the row, one for the tail, one for the number, and two to put
  -- it back
  pub cost : q.moves ≡ with_loads (5 * length events) (moved 6 p.moves)
  pub named : (events ≡ []) ⊎ ((i : Info) × InRow row i × (i.pos ≡ from))

-- no event is loaded where, of each Info that conflicts with the access, some early cut says for sure that it is ordered before it: asked
-- of the row that was taken, with the least monitors that the thread is in
abbrev pub LoadsNone : {X : _} {Y : _} {f : _} {g : _} → Cuts X Y f g → ℕ → Option ℤ → PassView → PassView → Type 0
LoadsNone cuts x write p q =
    (row : Row) × (q.reads ≡ p.reads ++ Taken (suc x) (slot.Row row) ∷ []) × (held : List ℕ) × AreLeastEntered (levels_of p.own.mine) held
    × (((i : Info) → Keeps row i → Conflicts i (record (question_of p.own write) { held = held }) → (i.thread < THREADS)
    × SayYesSurely cuts i (record (question_of p.own write) { held = held })) → (q.known ≡ p.known) × (q.moves ≡ moved 6 p.moves))

-- the row that the call took, by which it answered: raised exactly where some Info that conflicts with the access fails its test, over each
-- list of events that the pass cannot tell from the table's and in which the row's Infos stand for accesses
pub record IsJudged (setting : Setting) (x : ℕ) (write : Option ℤ) (p : PassView) (s : Seen) (q : PassView) : Type 0 where
  pub row : Row
  pub took : q.reads ≡ p.reads ++ Taken (suc x) (slot.Row row) ∷ []
  -- the tail that it saw is behind each of the row's Infos
  pub within : IsWithin row q.seen
  pub answers : Answers row write s
  pub loads : LoadsOnce row p q
  pub cost : WalkCosts row q.seen 6 p q
  pub raised : (l : List Stamp) → IsFitting setting (shelf_of q) q.seen q.known l → InfosStand setting l row
      → (is_raised s ≡ true) ↔ SomeFails l row (question_of p.own write)
