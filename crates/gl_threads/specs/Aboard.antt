-- A thread that a worker runs, or that is done.
use Rattle.std.specs.Prelude.{◌≡◌, ◌≢◌, ℕ, Bool, true, false, List, [], Option}
use Rattle.std.specs.List.{All}
use Rattle.atomic_table.specs.Seated.{TableId}
use Rattle.gl_bytecode.specs.Machine.{Config}
use Rattle.gl_bytecode.specs.Programs.{Bytecode}
use Rattle.gl_bytecode.specs.Runs.{Runs}
use Rattle.gl_cache.specs.Words.{Words}
use Rattle.gl_rule.specs.Closed.{IsDone}
use Rattle.gl_table.specs.PassView.{PassView}
use Rattle.gl_txn.specs.Attempts.{Attempting}
use Rattle.gl_riders.specs.Owing.{AreKept}
use Rattle.gl_riders.specs.Riding.{Rides}
use Rattle.gl_riders.specs.Sparing.{IsSpared}
use Rattle.gl_threads.specs.declared.rider.Rider.{Rider}
use Rattle.gl_threads.specs.declared.rider.Pace.{Pace}
use Rattle.gl_threads.specs.declared.rider.Pace.TheVariants.{Moved, Idle, Stopped}
use Rattle.gl_threads.specs.declared.advance.Went.{Went}
use Rattle.gl_threads.specs.declared.advance.Went.TheVariants.{On, Nowhere, Home}

-- a pass that is done, with a sparing list that its thread's instructions make
pub record IsFinished (P : Bytecode) (steps : ℕ) (z : TableId) (v : PassView) : Type 0 where
  pub table : v.own.table ≡ z
  pub held : v.own.held ≡ []
  pub done : IsDone v.own.mine v.quiet
  pub runs : v.own.mine ≢ [] → Runs P steps v.own.id v.own.mine
  pub spared : IsSpared v.own.mine

abbrev pub IfOn : Went → Type 0 → Type 0
IfOn Home fact = Unit {0}
IfOn On fact = fact
IfOn Nowhere fact = fact

abbrev pub IfHome : Went → Type 0 → Type 0
IfHome Home fact = fact
IfHome On fact = Unit {0}
IfHome Nowhere fact = Unit {0}

-- a thread with its machine, its pass, its attempt and its private words: it goes on, or is done
abbrev pub AboardBy : Bool → Bytecode → TableId → Config → PassView → Option Attempting → Words → Type 0
AboardBy true P z c v txn words = IsFinished P c.limit z v
AboardBy false P z c v txn words = Rides P z c v.own txn × AreKept txn words v.own

abbrev pub IsAboard : Bytecode → ℕ → TableId → Rider → Type 0
IsAboard P steps z r = AboardBy r.home P z r.thread.machine r.thread.pass r.thread.txn r.thread.words × (r.thread.machine.limit ≡ steps)

abbrev pub AreAboard : Bytecode → ℕ → TableId → List Rider → Type 0
AreAboard P steps z rs = All (IsAboard P steps z) rs

abbrev pub rider_id : Rider → ℕ
rider_id r = r.thread.pass.own.id

abbrev pub AreFinished : Bytecode → ℕ → TableId → List Rider → Type 0
AreFinished P steps z rs = All (λ r. IsFinished P steps z r.thread.pass) rs

abbrev pub IfPace : Pace → Type 0 → Type 0
IfPace Stopped fact = Unit {0}
IfPace Moved fact = fact
IfPace Idle fact = fact
