-- What is kept of a variable against its draws.
use Rattle.std.specs.Prelude.{◌≡◌, ℕ, ◌+◌, if◌then◌else◌, List, length, Option, Some, None, is_some}
use Rattle.gl_model.specs.declared.limits.TheConstants.{THREADS}
use Rattle.gl_draws.specs.Draws.{Draw, access_of, variables_in, last_write, last_read}
use Rattle.gl_clocks.specs.Clocks.{tick}
use Rattle.gl_core.specs.declared.latest.Epoch.{Epoch}
use Rattle.gl_core.specs.Cells.{at}
use Rattle.gl_core.specs.Marks.{Marks}

-- the epoch is that of the draw's access
pub record IsEpochOf (e : Epoch) (d : Draw) : Type 0 where
  pub thread : e.thread ≡ d.thread
  pub mark : e.mark ≡ tick (access_of d) + 1
  pub commit : e.commit ≡ is_some (variables_in d.what)

-- these are the draw's marks: as a plain access, and as a commit
abbrev pub AreMarksOf : ℕ → ℕ → Option Draw → Type 0
AreMarksOf plain commit None = (plain ≡ 0) × (commit ≡ 0)
AreMarksOf plain commit (Some d) =
    (plain ≡ (if is_some (variables_in d.what) then 0 else tick (access_of d) + 1))
    × (commit ≡ (if is_some (variables_in d.what) then tick (access_of d) + 1 else 0))

abbrev pub IsWriterOf : ℕ → Option Draw → Type 0
IsWriterOf t None = Unit {0}
IsWriterOf t (Some d) = t ≡ d.thread

-- it is the last performed write of these draws of x, and each thread's last performed read since
pub record LatestStands (x : ℕ) (ds : List Draw) (l : Marks) : Type 0 where
  pub writer : IsWriterOf l.writer (last_write x ds)
  pub last_write : AreMarksOf l.written l.committed (last_write x ds)
  pub reads_long : length l.reads ≡ THREADS
  pub parts_long : length l.parts ≡ THREADS
  pub reads : (t : ℕ) → AreMarksOf (at l.reads t) (at l.parts t) (last_read x t ds)
