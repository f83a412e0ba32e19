-- The lines that a raised access races with, and how the last of them is found and all of them counted.
use Rattle.std.specs.Prelude.{◌≡◌, ◌≢◌, ℕ, ◌+◌, ◌<◌, ◌≤◌, List, take, slice_get, Option, Some, None, ◌⊎◌}
use Rattle.gl_model.specs.declared.row.Judged.TheVariants.{Performed}
use Rattle.gl_model.specs.Next.{HappensBeforeNext}
use Rattle.gl_lines.specs.Traced.{history}
use Rattle.gl_lines.specs.TraceLaws.{Accesses, WritesTo, commit_of}
use Rattle.gl_lines.specs.TraceRows.{access_at}
use Rattle.gl_core.specs.Cells.{at}
use Rattle.gl_explain.specs.declared.told.Told.{Told}
use Rattle.gl_explain.specs.declared.told.Kept.{Kept}
use Rattle.gl_explain.specs.Told.{line_of, lines_of}

-- the earlier line is a performed access of x by another thread, one of the two writes x, and they are not both commits
pub record Conflicts (earlier next : Told) (x : ℕ) : Type 0 where
  pub performed : earlier.judged ≡ Performed
  pub touches : Accesses earlier.item x
  pub another : earlier.thread ≢ next.thread
  pub writes : WritesTo earlier.item x ⊎ WritesTo next.item x
  pub plain : (commit_of earlier.item ≡ None) ⊎ (commit_of next.item ≡ None)

-- the line at place i of those before the next one conflicts with it on x, and does not happen before it
pub record IsCulprit (before : List Told) (next : Told) (x i : ℕ) : Type 0 where
  pub told : Told
  pub there : slice_get before i ≡ Some told
  pub conflicts : Conflicts told next x
  pub unordered : HappensBeforeNext (history (lines_of before)) (access_at (lines_of (take i before)) (line_of told)) next.thread
      (commit_of next.item) → ⊥

-- the last number that is such, if there is one
abbrev pub IsLastOf : (ℕ → Type 0) → Option ℕ → Type 0
IsLastOf P None = (i : ℕ) → P i → ⊥
IsLastOf P (Some j) = P j × ((i : ℕ) → j < i → P i → ⊥)

-- of the numbers below n there are c such
pub data Counts (P : ℕ → Type 0) : ℕ → ℕ → Type 0 where
  none_yet : Counts P 0 0
  one_more : (n c : ℕ) → Counts P n c → P n → Counts P (n + 1) (c + 1)
  not_one : (n c : ℕ) → Counts P n c → (P n → ⊥) → Counts P (n + 1) c

-- what is kept of the line at place i says that it is a culprit, to who knows so much of each thread
abbrev pub IsUnknown : List Kept → Told → ℕ → List ℕ → ℕ → Type 0
IsUnknown kept next x known i = (k : Kept) × (slice_get kept i ≡ Some k) × (Conflicts k.told next x × (at known k.told.thread < k.mark))

-- what is kept of the line at place i says that it is one of thread t, before which a clock that has come so far has passed it
abbrev pub IsPassed : List Kept → ℕ → ℕ → ℕ → Type 0
IsPassed kept t known i = (k : Kept) × (slice_get kept i ≡ Some k) × ((k.told.thread ≡ t) × (k.own ≤ known))
