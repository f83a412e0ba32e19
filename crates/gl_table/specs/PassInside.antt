-- A pass's fields, and what is true of them.
use Rattle.std.specs.Prelude.{◌≡◌, ℕ, Bool, ◌==◌, ◌<◌, ◌≤◌, vec_capacity, List, [], ◌∷◌, ◌++◌, map, Contains}
use Rattle.std.specs.List.{All, IsDistinct}
use Rattle.atomic_table.specs.Table as table
use Rattle.gl_model.specs.declared.limits.TheConstants.{THREADS}
use Rattle.gl_model.specs.Entries.{Entry}
use Rattle.gl_model.specs.Kept.{IsEntryKept}
use Rattle.gl_table.specs.declared.pass.Pass.TheInside.{Inside}
use Rattle.gl_rule.specs.declared.slot.Slot.{Slot}
use Rattle.gl_rule.specs.declared.slot.Slot.TheVariants as slot
use Rattle.gl_rule.specs.Adding.{Adding}
use Rattle.gl_table.specs.CaughtUp.{caught_up, first_marked}
use Rattle.gl_rule.specs.Knowledge.{AreBelow}
use Rattle.gl_rule.specs.Objects.{objects}
use Rattle.gl_table.specs.PassView.{PassView, pass_of}
use Rattle.gl_rule.specs.View.{View, Held, shelf}

abbrev pub pass_view : Inside → PassView
pass_view p = pass_of p.seat.table_id p.id p.mine.entries (caught_up p.seat.me.0 p.id p.mine.entries) p.mine.spare

-- the slots of held objects, whose values are out of them
abbrev pub empties : List ℕ → List (ℕ × Slot)
empties order = map (λ k. (k, slot.Empty)) order

-- what the pass of thread id has stored may be recorded by its next step
pub record IsReady (v : View) (id : ℕ) (mine : List Entry) : Type 0 where
  pub more : List Entry
  pub one : v.shelves ≡ shelf id (first_marked v.shelves) ∷ []
  pub is : mine ≡ first_marked v.shelves ++ more
  pub adds : Adding v more (caught_up v id mine)
  pub named : id < THREADS

-- object k is among these that are held
abbrev pub IsHeld : List Held → ℕ → Type 0
IsHeld held k = (h : Held) × Contains held h × (h.object ≡ k)

-- the slots that are out with the seat are those of the held objects, each of them once and empty
pub record AreOut (c : List (ℕ × Slot)) (order : List ℕ) (held : List Held) : Type 0 where
  pub carried : c ≡ empties order
  pub listed : All (λ (h : Held). Contains order h.object) held
  pub holds : All (IsHeld held) order
  pub near : All (λ k. k < objects) order
  pub distinct : IsDistinct (λ a b. a == b) order

pub record IsPass (me : table.Me Slot View) (id : ℕ) (mine : List Entry) (seen : ℕ) (order : List ℕ) (quiet : Bool) : Type 0 where
  pub ready : IsReady me.0 id mine
  pub sees : seen ≡ (caught_up me.0 id mine).seen
  pub quiets : quiet ≡ (caught_up me.0 id mine).quiet
  -- no word of an event that is not published stands in a cell
  pub unstored : (caught_up me.0 id mine).stored ≡ []
  pub out : AreOut me.1 order (caught_up me.0 id mine).held
  -- its events are below the last tail that it saw
  pub below : AreBelow seen (shelf id mine)
  -- each id in its entries is one that there is
  pub kept : All IsEntryKept mine

pub record IsPassInside (p : Inside) : Type 0 where
  pub pass : IsPass p.seat.me p.id p.mine.entries p.seen p.order.items p.quiet
  -- there is room for each object
  pub room : objects ≤ vec_capacity p.order
