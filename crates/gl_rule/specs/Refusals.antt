-- Refusals: an attempt that was refused for a race was judged over the events up to a tail, and rightly.
use Rattle.std.specs.Prelude.{◌≡◌, ℕ, suc, ◌<◌, List, Contains}
use Rattle.std.specs.List.{All}
use Rattle.gl_draws.specs.Draws.{Draw, Among}
use Rattle.gl_draws.specs.Refusals.{AreJudgedOnce}
use Rattle.gl_rule.specs.Values.{with_draw}
use Rattle.gl_rule.specs.View.{View, Held, Shelf}

-- of a row that is held: its draws stand below each tail that was seen since it was taken
pub record DrawsBelow (draws : ℕ → List Draw) (h : Held) : Type 0 where
  pub at : (x : ℕ) (before : List Draw) (a : Draw) (n : ℕ) → h.object ≡ suc x → draws x ≡ with_draw h.drew before → Among before a
      → Contains h.tails n → a.block < n

-- the refused attempts of the list were judged each over the same events on all its variables
abbrev pub ShelfRefusals : (ℕ → ℕ → ℕ) → Shelf → Type 0
ShelfRefusals until s = AreJudgedOnce until s.marked

pub record RefusalsFit (draws : ℕ → List Draw) (until : ℕ → ℕ → ℕ) (v : View) : Type 0 where
  pub held : All (DrawsBelow draws) v.held
  pub shelves : All (ShelfRefusals until) v.shelves
