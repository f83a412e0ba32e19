-- What is kept of the lines so far: their marks, where their accesses stand in the list of events, and that they made all draws.
use Rattle.std.specs.Prelude.{◌≡◌, ℕ, ◌+◌, List, take, slice_get, Some, None, ◌↔◌}
use Rattle.gl_model.specs.declared.event.Stamp.{Stamp}
use Rattle.gl_model.specs.declared.row.Judged.TheVariants.{Performed}
use Rattle.gl_model.specs.Entries.{Entry}
use Rattle.gl_model.specs.Locksets.{Access, IsAccessOf}
use Rattle.gl_model.specs.Records.{IsPerformed, IsPlain, Writes}
use Rattle.gl_model.specs.Trace.{Line}
use Rattle.gl_clocks.specs.Clocks.{tick}
use Rattle.gl_core.specs.Cells.{at}
use Rattle.gl_draws.specs.Draws.{Entered, Draw, access_of, Among}
use Rattle.gl_lines.specs.Traced.{block_of, traced, history, draws_of}
use Rattle.gl_lines.specs.TraceLaws.{Accesses, WritesTo, commit_of}
use Rattle.gl_lines.specs.TraceRows.{access_at}
use Rattle.gl_explain.specs.declared.told.Told.{Told}
use Rattle.gl_explain.specs.declared.told.Kept.{Kept}
use Rattle.gl_explain.specs.Explained.{IsLearnt}
use Rattle.gl_explain.specs.Races.{IsCulprit, IsUnknown, IsPassed}
use Rattle.gl_explain.specs.Told.{line_of, lines_of, told_of}

-- a plain access that thread t makes behind these lines
abbrev pub plain_behind : List Line → ℕ → Access
plain_behind lines t = record { thread = t; block = block_of t (traced lines); variables = None }

-- the marks of a line behind these: how many events its thread has seen of itself, and how many its access
pub record IsMarked (lines : List Line) (k : Kept) : Type 0 where
  pub own : k.own ≡ tick (plain_behind lines k.told.thread) + 1
  pub mark : k.told.judged ≡ Performed → k.mark ≡ tick (access_at lines (line_of k.told)) + 1

-- the accesses of a line behind these stand in the list of events
pub record IsPlacedIn (h : List Stamp) (lines : List Line) (l : Line) : Type 0 where
  pub plain : IsAccessOf h (plain_behind lines l.thread)
  pub access : l.judged ≡ Performed → IsAccessOf h (access_at lines l)

-- the draw was made by the performed access of one of these lines
pub record IsOfLine (lines : List Line) (x : ℕ) (d : Draw) (e : Entry) : Type 0 where
  pub place : ℕ
  pub line : Line
  pub there : slice_get lines place ≡ Some line
  pub performed : line.judged ≡ Performed
  pub touches : Accesses line.item x
  pub access : access_of d ≡ access_at (take place lines) line
  pub writes : Writes e x → WritesTo line.item x
  pub plain : IsPlain e → commit_of line.item ≡ None

-- each draw of a performed access was made by one of these lines
abbrev pub AreOfLines : List Line → (ℕ → List Draw) → Type 0
AreOfLines lines draws = (x : ℕ) (d : Draw) (e : Entry) → Among (draws x) d → d.what ≡ Entered e → IsPerformed e → IsOfLine lines x d e

pub record AreKept (lines : List Line) (kept : List Kept) : Type 0 where
  pub lines_are : lines_of (told_of kept) ≡ lines
  pub marked : (i : ℕ) (k : Kept) → slice_get kept i ≡ Some k → IsMarked (take i lines) k
  pub placed : (i : ℕ) (k : Kept) → slice_get kept i ≡ Some k → IsPlacedIn (history lines) (take i lines) (line_of k.told)
  pub drawn : AreOfLines lines (draws_of lines)

-- by the clock the marks tell which lines are culprits, and which were learnt of
pub record Tells (kept : List Kept) (next : Told) (known : List ℕ) : Type 0 where
  pub culprits : (x i : ℕ) → IsUnknown kept next x known i ↔ IsCulprit (told_of kept) next x i
  pub learnts : (t i : ℕ) → IsPassed kept t (at known t) i ↔ IsLearnt (told_of kept) next t i
