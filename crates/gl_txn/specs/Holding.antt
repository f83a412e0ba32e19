-- The rows that an attempt's end holds, as the pass's view has them.
use Rattle.std.specs.Prelude.{◌≡◌, ◌≢◌, ℕ, ℤ, zero, suc, ◌==◌, ◌<◌, false, if◌then◌else◌, List, [], ◌∷◌, ◌++◌, map, Contains, Option, Some, None}
use Rattle.gl_model.specs.declared.limits.TheConstants.{THREADS}
use Rattle.std.specs.List.{find}
use Rattle.gl_model.specs.declared.tx.Pair.{Pair}
use Rattle.gl_model.specs.Kept.{AreVariables}
use Rattle.gl_draws.specs.Draws.{Draw, is_write, is_read}
use Rattle.gl_rule.specs.declared.slot.Slot.TheVariants as slot
use Rattle.gl_rule.specs.View.{Held, Read, Busy, Taken}
use Rattle.gl_table.specs.PassView.{PassView}
use Rattle.gl_txn.specs.declared.taken.TakenRow.{TakenRow}

-- the variables of the rows
abbrev pub vars_of : List TakenRow → List ℕ
vars_of rows = map (λ r. r.var) rows

-- what a pass read by taking rows, one after another
abbrev pub takes : List TakenRow → List Read
takes rows = map (λ r. Taken (suc r.var) (slot.Row r.row)) rows

-- the first held object with this number
abbrev pub found : ℕ → List Held → Option Held
found k [] = None
found k (h ∷ hs) = if h.object == k then Some h else found k hs

-- the row of y among these
abbrev pub row_at : List TakenRow → ℕ → Option TakenRow
row_at [] y = None
row_at (r ∷ rs) y = if r.var == y then Some r else row_at rs y

-- a row as it is held: as it was taken, with these tails seen since then, and with this drawn on it
abbrev pub row_held : List ℕ → (ℕ → Option Draw) → TakenRow → Held
row_held tails drew r = record {
  object = suc r.var;
  taken = slot.Row r.row;
  first = slot.Row r.row;
  tails = tails;
  drew = drew r.var;
  floor = None;
}

abbrev pub held_by : List ℕ → (ℕ → Option Draw) → Option TakenRow → Option Held
held_by tails drew None = None
held_by tails drew (Some r) = Some (row_held tails drew r)

-- what is held of object k: the list, if it is held, and these rows
abbrev pub held_of : Option Held → List TakenRow → List ℕ → (ℕ → Option Draw) → ℕ → Option Held
held_of list rows tails drew zero = list
held_of list rows tails drew (suc y) = held_by tails drew (row_at rows y)

-- just these are held, each of them once
pub record AreHeld (held : List Held) (list : Option Held) (rows : List TakenRow) (tails : List ℕ) (drew : ℕ → Option Draw) : Type 0 where
  pub at : (k : ℕ) → found k held ≡ held_of list rows tails drew k
  pub once : (h : Held) → Contains held h → found h.object held ≡ Some h
  pub are : AreVariables (vars_of rows)

-- nothing was drawn on any row
abbrev pub undrawn : ℕ → Option Draw
undrawn y = None

-- these rows alone are held, and no access of them was drawn
pub record AreUnused (held : List Held) (rows : List TakenRow) : Type 0 where
  pub tails : List ℕ
  pub drew : ℕ → Option Draw
  pub holds : AreHeld held None rows tails drew
  pub unused : (y : ℕ) (d : Draw) → drew y ≡ Some d → (is_write y d.what ≡ false) × (is_read y d.what ≡ false)

-- the pass, which was p and is q, took the rows of these variables and did nothing else
pub record HaveTaken (p q : PassView) (ys : List ℕ) (rows : List TakenRow) : Type 0 where
  pub of : vars_of rows ≡ ys
  pub is : q ≡ record p { own = record p.own { held = q.own.held }; reads = p.reads ++ takes rows; moves = q.moves }
  pub held : AreHeld q.own.held None rows [] undrawn

-- it took some of them, the first ones, found the next one's turn held by another pass, and put them back
pub record WereBusy (ys : List ℕ) (by : ℕ) (p q : PassView) : Type 0 where
  pub near : by < THREADS
  pub other : by ≢ p.own.id
  pub rows : List TakenRow
  pub var : ℕ
  pub rest : List ℕ
  pub of : ys ≡ vars_of rows ++ var ∷ rest
  pub is : q ≡ record p { reads = (p.reads ++ takes rows) ++ Busy (suc var) by ∷ []; moves = q.moves }

-- the word that these write to x
abbrev pub word_by : Option Pair → Option ℤ
word_by None = None
word_by (Some w) = Some w.value

abbrev pub write_in : List Pair → ℕ → Option ℤ
write_in ws x = word_by (find (λ w. w.var == x) ws)

-- each row has the word that is written there
abbrev pub HaveWrites : List Pair → List TakenRow → Type 0
HaveWrites ws rows = (r : TakenRow) → Contains rows r → r.write ≡ write_in ws r.var
