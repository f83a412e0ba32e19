-- What is asked of a pass that makes an event, and what the event is.
use Rattle.std.specs.Prelude.{◌≡◌, ℕ, ℤ, false, ◌<◌, List, [], ◌∷◌, ◌++◌}
use Rattle.gl_model.specs.declared.event.Act.{Act}
use Rattle.gl_model.specs.declared.event.Event.TheVariants.{Act as Does}
use Rattle.gl_model.specs.declared.event.Stamp.{Stamp}
use Rattle.gl_model.specs.Entries.{Entry, Sync}
use Rattle.gl_model.specs.Machine.{Setting, State, Allows, Step}
use Rattle.gl_draws.specs.Events.{AreEvents}
use Rattle.gl_draws.specs.Ties.{counted}
use Rattle.gl_rule.specs.Cells.{packed}
use Rattle.gl_rule.specs.Lives.{Running, life_of}
use Rattle.gl_table.specs.PassView.{PassView, Own, view_of, after_storing, after}
use Rattle.gl_table.specs.TableView.{TableView}
use Rattle.gl_rule.specs.declared.slot.Slot.{Slot}
use Rattle.gl_rule.specs.View.{filled, published, left}
use Rattle.gl_rule.specs.Bounded.{most_entries}

-- the pass is of this table, holds and owes nothing, has room for an entry, and its thread runs
pub record MayAct (z : TableView) (p : PassView) : Type 0 where
  pub table : p.own.table ≡ z.id
  pub held : p.own.held ≡ []
  pub drawn : p.own.drawn ≡ []
  pub owed : p.own.owed ≡ []
  pub spare : 0 < p.spare
  pub few : counted p.own.mine < most_entries
  pub runs : life_of p.own.mine ≡ Running

-- an entry more, of an event
abbrev pub told : Entry → Own → Own
told e o = record o { mine = o.mine ++ e ∷ [] }

-- the act is a step of the machine, behind a list of events that the pass can not tell from the table's
pub record IsStepOf (setting : Setting) (p : PassView) (act : Act) (value : ℤ) : Type 0 where
  pub log : List Stamp
  pub now : State
  pub allowed : Allows setting log now
  pub own : AreEvents log p.own.id p.own.mine
  pub new : State
  pub step : Step setting now (record { thread = p.own.id; event = Does act }) value new

-- the act was published at n, and the list was put back as y
abbrev pub announced : PassView → Act → ℤ → ℕ → Slot → PassView
announced p act value n y =
    let x : Stamp = record { thread = p.own.id; event = Does act } in
    let q = after_storing p (published (filled (view_of p) (packed x)) p.own.id p.own.mine (Sync n act value) n x y (λ g. g.drew)) in
    after q (left (view_of q) 0 false)
