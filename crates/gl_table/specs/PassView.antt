-- What contracts see of a pass.
use Rattle.std.specs.Prelude.{ℕ, ℤ, ◌-◌, Bool, List, [], ◌∷◌}
use Rattle.atomic_table.specs.Seated.{TableId}
use Rattle.gl_model.specs.declared.event.Stamp.{Stamp}
use Rattle.gl_model.specs.Entries.{Entry}
use Rattle.gl_draws.specs.Ties.{Drawn}
use Rattle.gl_table.specs.CaughtUp.{first_marked, adds_one}
use Rattle.gl_rule.specs.View.{View, Shelf, shelf, Held, Read, CellWord, Moves}

-- what a pass has of its own: only its own calls change it
pub record Own : Type 0 where
  pub table : TableId
  pub id : ℕ
  pub mine : List Entry
  pub held : List Held
  -- the numbers that no entry has yet
  pub drawn : List Drawn
  -- the cached writes that are not written back
  pub owed : List (ℕ × ℤ)

pub record PassView : Type 0 where
  pub own : Own
  pub seen : ℕ
  pub known : List (ℕ × Stamp)
  pub reads : List Read
  pub quiet : Bool
  pub stored : List ℕ
  pub loaded : List CellWord
  -- the atomic steps that it made
  pub moves : Moves
  -- how many entries it can take without memory
  pub spare : ℕ

abbrev pub pass_of : TableId → ℕ → List Entry → View → ℕ → PassView
pass_of table id mine v spare = record {
  own = record { table = table; id = id; mine = mine; held = v.held; drawn = v.drawn; owed = v.owed };
  seen = v.seen;
  known = v.known;
  reads = v.reads;
  quiet = v.quiet;
  stored = v.stored;
  loaded = v.loaded;
  moves = v.moves;
  spare = spare;
}

-- its view, as the rule has it
abbrev pub view_of : PassView → View
view_of p = record {
  shelves = shelf p.own.id p.own.mine
      ∷ [];
  seen = p.seen;
  known = p.known;
  held = p.own.held;
  drawn = p.own.drawn;
  reads = p.reads;
  quiet = p.quiet;
  owed = p.own.owed;
  stored = p.stored;
  loaded = p.loaded;
  moves = p.moves;
}

abbrev pub shelf_of : PassView → Shelf
shelf_of p = shelf p.own.id p.own.mine

-- the pass after a step that makes this of its view
abbrev pub after : PassView → View → PassView
after p v = pass_of p.own.table p.own.id (first_marked v.shelves) v p.spare

-- and after one that stores an entry
abbrev pub after_storing : PassView → View → PassView
after_storing p v = pass_of p.own.table p.own.id (first_marked v.shelves) v (p.spare - 1)

-- and with an entry that it added without a step
abbrev pub after_adding : PassView → Entry → PassView
after_adding p e = after_storing p (adds_one (view_of p) p.own.id p.own.mine e)
