-- What is said of a race.
use Rattle.std.specs.Prelude.{◌≡◌, ℕ, ◌+◌, ◌<◌, ◌==◌, ◌&&◌, ◌||◌, Bool, true, false, List, ◌∷◌, ◌++◌, length, map, take, slice_get, Option, Some, None, is_some}
use Rattle.std.specs.List.{filter}
use Rattle.gl_model.specs.declared.event.Act.TheVariants.{Begin, End, Acq, Rel, VRead, VWrite, Fork, Join, Alloc, Print, Input, Fail}
use Rattle.gl_model.specs.declared.row.Item.{Item}
use Rattle.gl_model.specs.declared.row.Item.TheVariants.{Act as Acts, Access, Commit}
use Rattle.gl_model.specs.declared.row.Judged.{Judged}
use Rattle.gl_model.specs.declared.row.Judged.TheVariants.{NoAccess, Performed, Raised}
use Rattle.gl_model.specs.Next.{HappensBeforeNext}
use Rattle.gl_lines.specs.Traced.{history, block_of, traced}
use Rattle.gl_lines.specs.TraceLaws.{commit_of}
use Rattle.gl_trace.specs.Verdicts.{is_race}
use Rattle.gl_explain.specs.declared.told.Told.{Told}
use Rattle.gl_explain.specs.declared.told.Explanation.{Explanation}
use Rattle.gl_explain.specs.Told.{lines_of}
use Rattle.gl_explain.specs.Races.{IsCulprit, IsLastOf, Counts}
use Rattle.gl_explain.specs.Owned.{AreOwned}

-- a commit of some variable
abbrev pub touches : List ℕ → List ℕ → Bool
touches reads writes = is_some (slice_get reads 0) || is_some (slice_get writes 0)

-- the line hands on what thread t did before it, to who takes it up: t releases a monitor, writes a volatile, forks a thread or commits
-- on some variable, or t is joined
abbrev pub hands_on : ℕ → Item → Judged → ℕ → Bool
hands_on t (Acts (Begin f)) judged u = false
hands_on t (Acts End) judged u = false
hands_on t (Acts (Acq m)) judged u = false
hands_on t (Acts (Rel m)) judged u = u == t
hands_on t (Acts (VRead v)) judged u = false
hands_on t (Acts (VWrite v)) judged u = u == t
hands_on t (Acts (Fork w f)) judged u = u == t
hands_on t (Acts (Join w)) judged u = w == t
hands_on t (Acts (Alloc c)) judged u = false
hands_on t (Acts Print) judged u = false
hands_on t (Acts Input) judged u = false
hands_on t (Acts (Fail k)) judged u = false
hands_on t (Access x write) judged u = false
hands_on t (Commit reads writes) NoAccess u = false
hands_on t (Commit reads writes) Performed u = u == t && touches reads writes
hands_on t (Commit reads writes) (Raised var) u = false

abbrev pub is_handing : ℕ → Told → Bool
is_handing t k = hands_on t k.item k.judged k.thread

-- the first line behind place j that passes the test, if there is one
abbrev pub IsFirstBehind : (Told → Bool) → List Told → ℕ → Option Told → Type 0
IsFirstBehind test before j None = (i : ℕ) (k : Told) → j < i → slice_get before i ≡ Some k → test k ≡ false
IsFirstBehind test before j (Some found) =
    (i : ℕ) × (j < i) × (slice_get before i ≡ Some found) × (test found ≡ true)
    × ((h : ℕ) (k : Told) → j < h → h < i → slice_get before h ≡ Some k → test k ≡ false)

-- the line at place i is one of thread t, and what t did before it happens before the next line: so does a plain access that t made just
-- there
pub record IsLearnt (before : List Told) (next : Told) (t i : ℕ) : Type 0 where
  pub told : Told
  pub there : slice_get before i ≡ Some told
  pub own : told.thread ≡ t
  pub ordered :
      HappensBeforeNext (history (lines_of before))
      (record { thread = t; block = block_of t (traced (lines_of (take i before))); variables = None }) next.thread (commit_of next.item)

-- the last of these lines whose place is such, if there is one
abbrev pub IsLastTold : (ℕ → Type 0) → List Told → Option Told → Type 0
IsLastTold P before None = IsLastOf P None
IsLastTold P before (Some k) = (i : ℕ) × (slice_get before i ≡ Some k) × IsLastOf P (Some i)

-- the explanation is one of the line that it names, behind these lines
pub record IsExplained (before : List Told) (e : Explanation) : Type 0 where
  pub raised : e.at.judged ≡ Raised e.var
  -- the line that it is said to race with, and where it stands: of those that it races with, the last
  pub there : slice_get before e.place ≡ Some e.other
  pub culprit : IsLastOf (IsCulprit before e.at e.var) (Some e.place)
  -- how many others there are
  pub others : Counts (IsCulprit before e.at e.var) (length before) (e.others + 1)
  -- what the two threads own, each when it makes its access
  pub owned : AreOwned before e.at.thread e.owned.items
  pub other_owned : AreOwned (take e.place before) e.other.thread e.other_owned.items
  -- where the other thread first hands on what it did
  pub handed : IsFirstBehind (is_handing e.other.thread) before e.place e.handed
  -- the last line of the other thread that leads here
  pub learnt : IsLastTold (IsLearnt before e.at e.other.thread) before e.learnt

-- the line behind these is a race and this explains it, or it is none
abbrev pub Explains : List Told → Told → Option Explanation → Type 0
Explains before next None = is_race next.judged ≡ false
Explains before next (Some e) = (e.at ≡ next) × IsExplained before e

-- the lines that are races
abbrev pub races_of : List Told → List Told
races_of told = filter (λ k. is_race k.judged) told

-- the explanations are of the races among these lines, of each one, in order
pub record AreExplained (told : List Told) (explained : List Explanation) : Type 0 where
  pub all : map (λ e. e.at) explained ≡ races_of told
  pub each :
      (i : ℕ) (e : Explanation) → slice_get explained i ≡ Some e → (before : List Told) × (behind : List Told)
      × (told ≡ before ++ e.at ∷ behind) × IsExplained before e
