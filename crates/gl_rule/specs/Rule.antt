-- The rule of the shared table, put together from its parts. It holds before and after each step. A part of the whole table is named
-- Hold, a part of one seat's view Fit.
use Rattle.std.specs.Prelude.{◌≡◌, ℕ, ◌*◌, List, length}
use Rattle.atomic_table.specs.Table as table
use Rattle.gl_draws.specs.Verdicts.{DrawsHold}
use Rattle.gl_rule.specs.declared.slot.Slot.{Slot}
use Rattle.gl_rule.specs.Each.{Each}
use Rattle.gl_rule.specs.Objects.{Key, Board, board, capacity, word_count}
use Rattle.gl_rule.specs.View.{View}
use Rattle.gl_rule.specs.World.{World}
use Rattle.gl_rule.specs.Turns.{TurnsFit, TurnsHold}
use Rattle.gl_rule.specs.Tries.{TriesFit, TriesHold}
use Rattle.gl_rule.specs.Positions.{PositionsHold, PositionsFit}
use Rattle.gl_rule.specs.Values.{ValuesHold, ValuesFit}
use Rattle.gl_rule.specs.Numbers.{NumbersHold, NumbersFit}
use Rattle.gl_rule.specs.Knowledge.{KnowledgeFits}
use Rattle.gl_rule.specs.Ring.{RingHolds, RingFits, LowHolds}
use Rattle.gl_rule.specs.Machine.{MachineHolds, CarriesFit}
use Rattle.gl_rule.specs.Owed.{OwedFits}
use Rattle.gl_rule.specs.Quiet.{QuietFits}
use Rattle.gl_draws.specs.Refusals.{RefusalsHold}
use Rattle.gl_rule.specs.Refusals.{RefusalsFit}

-- what is said of the view v of seat j
pub record Fits (key : Key) (b : Board) (w : World) (j : ℕ) (v : View) : Type 0 where
  pub turns : TurnsFit b.turn w.holder j v
  pub tries : TriesFit w.stopped w.takers v.shelves v.reads
  pub positions : PositionsFit w.log w.seat j v
  pub values : ValuesFit key.setting w b.hold v
  pub numbers : NumbersFit w.draws v
  pub knowledge : KnowledgeFits b.hold w.log v
  pub ring : RingFits b w.log w.trims v
  pub quiet : QuietFits w.now v
  pub refusals : RefusalsFit w.draws w.until v
  pub carries : CarriesFit w.values v
  pub owed : OwedFits w.draws v.owed v.shelves

-- what is said of the whole table
pub record Whole (key : Key) (b : Board) (w : World) (views : List View) : Type 0 where
  pub turns : TurnsHold b.turn w.holder views
  pub tries : TriesHold b.turn b.stop w.stopped w.takers
  pub positions : PositionsHold (b.count 0) w.log
  pub machine : MachineHolds key.setting w
  pub numbers : NumbersHold b.count w.draws
  -- what is said of each access is right, and so is each refusal
  pub verdicts : (x : ℕ) → DrawsHold w.log x (w.draws x)
  pub refused : (x : ℕ) → RefusalsHold w.log (w.until x) x (w.draws x)
  pub ring : RingHolds (capacity key) (b.hold 0 * key.cells) b w.log
  pub low : LowHolds (b.hold 0) w.trims

-- the table is as this world says
pub record Holds (key : Key) (w : World) (s : table.State Slot View) : Type 0 where
  pub words : length s.words ≡ word_count (capacity key)
  pub whole : Whole key (board (capacity key) s.words) w s.views
  pub values : ValuesHold key.setting w (board (capacity key) s.words).turn (board (capacity key) s.words).hold s.homes
  pub views : Each (Fits key (board (capacity key) s.words) w) s.views

-- the rule: there is a world as which the table is
abbrev pub Rule : Key → table.State Slot View → Type 0
Rule key s = (w : World) × Holds key w s
