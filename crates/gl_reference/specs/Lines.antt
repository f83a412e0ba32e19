-- What a line of a trace leaves of what the judge keeps.
use Rattle.std.specs.Prelude.{◌≡◌, ℕ, ◌≤◌, Bool, List, ◌∷◌, ◌++◌, [], length, map, Some, None}
use Rattle.gl_model.specs.declared.event.Event.TheVariants.{Commit as Commits}
use Rattle.gl_model.specs.declared.event.Stamp.{Stamp}
use Rattle.gl_model.specs.declared.row.Judged.{Judged}
use Rattle.gl_model.specs.declared.row.Judged.TheVariants.{NoAccess, Performed as WasPerformed, Raised}
use Rattle.gl_model.specs.Edges.{EventAt}
use Rattle.gl_model.specs.Trace.{is_in}
use Rattle.gl_reference.specs.Races.{IsRacyNext, IsFirstRacy}
use Rattle.gl_reference.specs.declared.races.Performed.{Performed}
use Rattle.gl_reference.specs.declared.races.Next.{Next}

-- the last event of thread t is at p
pub record IsLastOf (h : List Stamp) (t p : ℕ) : Type 0 where
  pub event : Stamp
  pub here : EventAt h p event
  pub own : event.thread ≡ t
  pub last : (q : ℕ) (s : Stamp) → EventAt h q s → s.thread ≡ t → q ≤ p

-- a plain access of x by thread t
abbrev pub plain_next : ℕ → ℕ → Bool → Next
plain_next t x write = record { thread = t; var = x; write = write; variables = None }

-- the same, performed in a block
abbrev pub plain_done : ℕ → ℕ → ℕ → Bool → Performed
plain_done block t x write = record { access = record { thread = t; block = block; variables = None }; var = x; write = write }

-- the access of x that is part of a performed commit
abbrev pub part_done : ℕ → ℕ → List ℕ → List ℕ → ℕ → Performed
part_done block t variables writes x = record {
  access = record { thread = t; block = block; variables = Some variables };
  var = x;
  write = is_in x writes;
}

-- a plain access is raised where it is racy, and else kept, in the block of its thread's last event
abbrev pub PlainDone : List Stamp → List Performed → ℕ → ℕ → Bool → Judged → List Performed → Type 0
PlainDone h ps t x write NoAccess ps' = ⊥
PlainDone h ps t x write (Raised var) ps' = (var ≡ x) × IsRacyNext h ps (plain_next t x write) × (ps' ≡ ps)
PlainDone h ps t x write WasPerformed ps' =
    (IsRacyNext h ps (plain_next t x write) → ⊥)
    × ((block : ℕ) × ((p : ℕ) → IsLastOf h t p → block ≡ p) × (ps' ≡ ps ++ plain_done block t x write ∷ []))

-- a commit is refused for the first of its variables on which it is racy; else it is an event, and its parts are kept in that block
abbrev pub CommitDone : List Stamp → List Performed → ℕ → List ℕ → List ℕ → Judged → List Stamp → List Performed → Type 0
CommitDone h ps t variables writes NoAccess h' ps' = ⊥
CommitDone h ps t variables writes (Raised var) h' ps' = IsFirstRacy h ps t variables writes (Some var) × (h' ≡ h) × (ps' ≡ ps)
CommitDone h ps t variables writes WasPerformed h' ps' =
    IsFirstRacy h ps t variables writes None × (h' ≡ h ++ record { thread = t; event = Commits variables } ∷ []) ×
    (ps' ≡ ps ++ map (part_done (length h) t variables writes) variables)
