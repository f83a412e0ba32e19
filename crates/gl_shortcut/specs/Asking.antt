-- What short cuts are asked about, and where an early one says yes for sure.
use Rattle.std.specs.Prelude.{◌≡◌, ℕ, ◌<◌, ◌==◌, ◌||◌, Bool, true, IsSome, Contains}
use Rattle.gl_model.specs.declared.event.Stamp.{Stamp}
use Rattle.gl_model.specs.declared.limits.TheConstants.{THREADS}
use Rattle.gl_model.specs.declared.row.Info.{Info}
use Rattle.gl_model.specs.declared.row.Question.{Question}
use Rattle.gl_shortcut.specs.declared.sure.Sure.{Sure}
use Rattle.gl_shortcut.specs.declared.sure.Sure.TheVariants.{Never, SameThread, BothCommits, SharedMonitor}

-- the threads in them are threads that there are
abbrev pub AreInRange : Info → Question → Type 0
AreInRange info q = (info.thread < THREADS) × (q.thread < THREADS)

-- some monitor is kept in both
abbrev pub ShareMonitor : Info → Question → Type 0
ShareMonitor info q = (o : ℕ) × Contains info.held o × Contains q.held o

abbrev pub AreBothCommits : Info → Question → Type 0
AreBothCommits info q = (info.commit ≡ true) × IsSome q.commit

-- where the Sure holds
abbrev pub HoldsAt : Sure → Info → Question → Type 0
HoldsAt Never info q = ⊥
HoldsAt SameThread info q = info.thread ≡ q.thread
HoldsAt BothCommits info q = AreBothCommits info q
HoldsAt SharedMonitor info q = ShareMonitor info q

-- one of the two threads made the event
abbrev pub is_of_two : ℕ → ℕ → Stamp → Bool
is_of_two t u s = (s.thread == t) || (s.thread == u)
