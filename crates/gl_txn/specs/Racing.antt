-- What the rows that a commit takes say of it.
use Rattle.std.specs.Prelude.{◌≡◌, ℕ, ◌*◌, ◌<◌, length, List, [], ◌∷◌, ◌++◌, map, slice_get, Contains, Option, Some, None}
use Rattle.gl_model.specs.declared.event.Stamp.{Stamp}
use Rattle.gl_model.specs.declared.limits.TheConstants.{THREADS}
use Rattle.gl_model.specs.declared.row.Question.{Question}
use Rattle.gl_model.specs.declared.tx.Pair.{Pair}
use Rattle.gl_model.specs.declared.tx.Tx.{Tx}
use Rattle.gl_model.specs.Infos.{AreLeastOwned}
use Rattle.gl_model.specs.Kept.{AreVariables}
use Rattle.gl_model.specs.Records.{variables_of}
use Rattle.gl_model.specs.Machine.{Setting, State, Allows}
use Rattle.gl_model.specs.Trace.{is_in}
use Rattle.gl_draws.specs.Draws.{Draw}
use Rattle.gl_draws.specs.Events.{AreEvents}
use Rattle.gl_draws.specs.RowFacts.{IsWithin, SomeFails}
use Rattle.gl_rule.specs.Fitting.{IsFitting, InfosStand}
use Rattle.gl_rule.specs.Lives.{Running, life_of}
use Rattle.gl_rule.specs.View.{Held, with_loads}
use Rattle.gl_table.specs.PassView.{PassView, shelf_of}
use Rattle.gl_rule.specs.Knowledge.{AreBelow}
use Rattle.gl_txn.specs.Holding.{AreHeld, undrawn, vars_of}
use Rattle.gl_txn.specs.declared.taken.TakenRow.{TakenRow}
use Rattle.gl_txn.specs.Changing.{AreUnchangedIn}

-- the question of the row of y, where the commit has these writes
abbrev pub asked_on : Question → List Pair → ℕ → Question
asked_on base writes y = record base { write = is_in y (map (λ w. w.var) writes) }

-- the pass holds these rows, whose Infos lie within what it has seen, its thread runs, and the question is of it
pub record MayJudge (p : PassView) (rows : List TakenRow) (base : Question) : Type 0 where
  pub list : Option Held
  pub tails : List ℕ
  pub drew : ℕ → Option Draw
  pub held : AreHeld p.own.held list rows tails drew
  pub within : (r : TakenRow) → Contains rows r → IsWithin r.row p.seen
  pub thread : base.thread ≡ p.own.id
  pub near : base.thread < THREADS
  pub runs : life_of p.own.mine ≡ Running
  pub owned : (setting : Setting) (l : List Stamp) (now : State) → AreEvents l p.own.id p.own.mine → Allows setting l now
      → AreLeastOwned now p.own.id base.held

-- nothing but what it knows of the list's events changed, and what it knew it still knows; five words were loaded for each event more
pub record KnowsOn (p q : PassView) : Type 0 where
  pub more : List (ℕ × Stamp)
  pub is : q ≡ record p { known = p.known ++ more; loaded = q.loaded; moves = with_loads (5 * length more) p.moves }

-- over each list of events that the pass cannot tell from the table's, in which the rows' Infos stand for accesses
abbrev pub Over : PassView → List TakenRow → (List Stamp → Type 0) → Type 0
Over q rows P = (setting : Setting) (l : List Stamp) → IsFitting setting (shelf_of q) q.seen q.known l
    → ((r : TakenRow) → Contains rows r → InfosStand setting l r.row) → P l

-- the commit completes no race on a row, on those before place n, and on any
abbrev pub IsClearOn : PassView → Question → List Pair → List TakenRow → TakenRow → Type 0
IsClearOn q base writes rows r = Over q rows (λ l. SomeFails l r.row (asked_on base writes r.var) → ⊥)

abbrev pub AreClearBefore : ℕ → PassView → Question → List Pair → List TakenRow → Type 0
AreClearBefore n q base writes rows = (k : ℕ) (r : TakenRow) → k < n → slice_get rows k ≡ Some r → IsClearOn q base writes rows r

abbrev pub AreClear : PassView → Question → List Pair → List TakenRow → Type 0
AreClear q base writes rows = (k : ℕ) (r : TakenRow) → slice_get rows k ≡ Some r → IsClearOn q base writes rows r

-- it completes one on the row at some place, whose variable is x, and none on those before it
pub record IsFirstRace (q : PassView) (base : Question) (writes : List Pair) (rows : List TakenRow) (x : ℕ) : Type 0 where
  pub place : ℕ
  pub row : TakenRow
  pub there : slice_get rows place ≡ Some row
  pub var : x ≡ row.var
  pub races : Over q rows (λ l. SomeFails l row.row (asked_on base writes row.var))
  pub before : AreClearBefore place q base writes rows

-- the question of the row of y by the commit of tx, made by thread t
abbrev pub asked_of : ℕ → Tx → ℕ → Question
asked_of t tx y = record { thread = t; write = is_in y (map (λ w. w.var) tx.writes); commit = Some (variables_of tx); held = [] }

-- the pass holds just the rows of the variables of tx, and has seen this tail since; over each list up to it the commit completes a race
-- on x and on no variable below
pub record RacesOn (p : PassView) (rows : List TakenRow) (tx : Tx) (x : ℕ) : Type 0 where
  pub of : vars_of rows ≡ variables_of tx
  pub held : AreHeld p.own.held None rows (p.seen ∷ []) undrawn
  pub below : AreBelow p.seen (shelf_of p)
  -- no word was changed
  pub unchanged : AreUnchangedIn tx.looks rows
  pub looks : AreVariables (map (λ l. l.var) tx.looks)
  pub place : ℕ
  pub row : TakenRow
  pub there : slice_get rows place ≡ Some row
  pub var : x ≡ row.var
  pub races : Over p rows (λ l. SomeFails l row.row (asked_of p.own.id tx x))
  pub least : (k : ℕ) (r : TakenRow) → k < place → slice_get rows k ≡ Some r
      → Over p rows (λ l. SomeFails l r.row (asked_of p.own.id tx r.var) → ⊥)
