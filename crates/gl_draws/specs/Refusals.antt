-- Attempts that were refused for a race. Each was judged over the first events of the list, up to some tail: `until` tells over how many,
-- by variable and number. The commits that stand before it on one of its variables are just those below that tail.
use Rattle.std.specs.Prelude.{◌≡◌, ℕ, true, ◌<◌, ◌≤◌, List, length, take, Contains, Some}
use Rattle.gl_model.specs.declared.event.Stamp.{Stamp}
use Rattle.gl_model.specs.declared.tx.Tx.{Tx}
use Rattle.gl_model.specs.declared.tx.Why.TheVariants.{Changed, Raised}
use Rattle.gl_model.specs.Entries.{Entry, Sync, Commit, Plain, Abort, Trim, Over}
use Rattle.gl_model.specs.Form.{At}
use Rattle.gl_model.specs.Edges.{EventAt}
use Rattle.gl_model.specs.Records.{variables_of}
use Rattle.gl_model.specs.Trace.{is_in}
use Rattle.gl_draws.specs.Draws.{What, Entered, Looked, Open, Draw, DrawAt, Among, EachDraw}
use Rattle.gl_draws.specs.NextRaces.{IsRacyNext}
use Rattle.gl_draws.specs.Verdicts.{IsCommitWhat}

-- an attempt on x that was refused, naming var, and judged over the first n events
pub record IsRefusedRightly (log : List Stamp) (x : ℕ) (ds : List Draw) (t p : ℕ) (tx : Tx) (var n : ℕ) : Type 0 where
  pub within : n ≤ length log
  -- the thread's last event among these is its block's
  pub block : p < n
  pub upto : (q : ℕ) (s : Stamp) → EventAt log q s → s.thread ≡ t → q < n → q ≤ p
  pub named : x ≡ var → IsRacyNext (take n log) x ds t (Some (variables_of tx)) (Abort tx (Raised var))
  pub least : x < var → IsRacyNext (take n log) x ds t (Some (variables_of tx)) (Abort tx (Raised var)) → ⊥
  pub behind : (a : Draw) → Among ds a → IsCommitWhat a.what → a.block < n

-- the draw is that of an attempt that was refused for a race
abbrev pub IsRefusal : What → Type 0
IsRefusal (Entered (Sync at act value)) = ⊥
IsRefusal (Entered (Commit at tx)) = ⊥
IsRefusal (Entered (Plain var nth cached write value raised)) = ⊥
IsRefusal (Entered (Abort tx (Changed var read found))) = ⊥
IsRefusal (Entered (Abort tx (Raised var))) = Unit {0}
IsRefusal (Entered (Trim low)) = ⊥
IsRefusal (Entered (Over ending)) = ⊥
IsRefusal (Looked value) = ⊥
IsRefusal Open = ⊥

-- a refused attempt was judged rightly; a commit stands at or behind what each refused attempt before it was judged over
abbrev pub RefusalRight : List Stamp → (ℕ → ℕ) → ℕ → List Draw → ℕ → ℕ → What → Type 0
RefusalRight log until x ds t p (Entered (Sync at act value)) = Unit {0}
RefusalRight log until x ds t p (Entered (Commit at tx)) = (k : ℕ) (a : Draw) → DrawAt ds k a → IsRefusal a.what → until k ≤ p
RefusalRight log until x ds t p (Entered (Plain var nth cached write value raised)) = Unit {0}
RefusalRight log until x ds t p (Entered (Abort tx (Changed var read found))) = Unit {0}
RefusalRight log until x ds t p (Entered (Abort tx (Raised var))) = IsRefusedRightly log x ds t p tx var (until (length ds))
RefusalRight log until x ds t p (Entered (Trim low)) = Unit {0}
RefusalRight log until x ds t p (Entered (Over ending)) = Unit {0}
RefusalRight log until x ds t p (Looked value) = Unit {0}
RefusalRight log until x ds t p Open = Unit {0}

-- what holds of the draw d of x, the draws with lower numbers being ds
abbrev pub RefusalHolds : List Stamp → (ℕ → ℕ) → ℕ → Draw → List Draw → Type 0
RefusalHolds log until x d ds = RefusalRight log until x ds d.thread d.block d.what

-- so of each draw of x
abbrev pub RefusalsHold : List Stamp → (ℕ → ℕ) → ℕ → List Draw → Type 0
RefusalsHold log until x ds = EachDraw (RefusalHolds log until x) ds

-- all variables of a refused attempt were judged over the same events, and the one that it names is among them
abbrev pub AreJudgedOnce : (ℕ → ℕ → ℕ) → List Entry → Type 0
AreJudgedOnce until es = (i : ℕ) (tx : Tx) (var : ℕ) → At es i (Abort tx (Raised var)) → (n : ℕ)
    × ((x k : ℕ) → Contains tx.numbers (record { var = x; nth = k }) → until x k ≡ n) × (is_in var (variables_of tx) ≡ true)
