-- What is kept of a variable: marks, each one more than the tick of an access, and 0 where there is none.
use Rattle.std.specs.Prelude.{◌≡◌, ℕ, ◌+◌, Bool, not, ◌&&◌, ◌||◌, false, nat_lt, List, [], ◌∷◌}
use Rattle.gl_core.specs.Cells.{at}

-- the last write, a plain one or a commit's, and by each thread its last read since, a plain one or a commit's
pub record Marks : Type 0 where
  pub writer : ℕ
  pub written : ℕ
  pub committed : ℕ
  pub reads : List ℕ
  pub parts : List ℕ

-- the access of some thread, from thread u on, is unknown
abbrev pub marks_fail : (ℕ → ℕ) → ℕ → List ℕ → Bool
marks_fail known u [] = false
marks_fail known u (m ∷ ms) = nat_lt (known u) m || marks_fail known (u + 1) ms

-- the last write is unknown; two commits are excepted
abbrev pub write_fails : (ℕ → ℕ) → Bool → Marks → Bool
write_fails known commit l = nat_lt (known l.writer) l.written || (not commit && nat_lt (known l.writer) l.committed)

-- a read since is unknown
abbrev pub reads_fail : (ℕ → ℕ) → Bool → Marks → Bool
reads_fail known commit l = marks_fail known 0 l.reads || (not commit && marks_fail known 0 l.parts)

-- some access that conflicts with a next one is unknown
abbrev pub latest_fails : (ℕ → ℕ) → Bool → Bool → Marks → Bool
latest_fails known commit write l = write_fails known commit l || (write && reads_fail known commit l)

-- no thread but one has a mark
abbrev pub IsAlone : ℕ → List ℕ → List ℕ → Type 0
IsAlone t reads parts = (u : ℕ) → (u ≡ t → ⊥) → (at reads u ≡ 0) × (at parts u ≡ 0)
