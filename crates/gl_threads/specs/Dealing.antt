-- How the threads are dealt to the workers, and gathered.
use Rattle.std.specs.Prelude.{◌≡◌, ℕ, zero, suc, ◌<◌, ◌≤◌, ◌%◌, ◌==◌, if◌then◌else◌, List, [], ◌∷◌, ◌++◌, length, map, slice_index_or}
use Rattle.atomic_table.specs.Seated.{TableId}
use Rattle.gl_bytecode.specs.Programs.{Bytecode}
use Rattle.gl_table.specs.Beginning.{fresh}
use Rattle.gl_table.specs.PassView.{Own, PassView}
use Rattle.gl_table.specs.TableView.{TableView}
use Rattle.gl_threads.specs.Aboard.{AreFinished, IsFinished, rider_id}
use Rattle.gl_threads.specs.Crews.{IsReady}
use Rattle.gl_threads.specs.declared.crew.Crew.{Crew}

-- n, where it is worker c's
abbrev pub its : ℕ → ℕ → ℕ → List ℕ
its W c n = if n % W == c then n ∷ [] else []

-- the numbers from n on, k of them, that are worker c's, the greatest first
abbrev pub dealt : ℕ → ℕ → ℕ → ℕ → List ℕ
dealt W c n zero = []
dealt W c n (suc k) = dealt W c (suc n) k ++ its W c n

-- the workers have the threads from n on, k of them
pub record AreDealt (W n k : ℕ) (crews : List Crew) : Type 0 where
  pub long : length crews ≡ W
  pub ids : (c : ℕ) (d : Crew) → c < W → map rider_id (slice_index_or crews c d).riders.items ≡ dealt W c n k

abbrev pub AreReady : Bytecode → ℕ → TableView → List Crew → Type 0
AreReady P steps t crews = (c : ℕ) (d : Crew) → c < length crews → IsReady P steps t (slice_index_or crews c d)

abbrev pub AreDone : Bytecode → ℕ → TableId → List Crew → Type 0
AreDone P steps z crews = (c : ℕ) (d : Crew) → c < length crews → AreFinished P steps z (slice_index_or crews c d).riders.items

-- what a pass has of its own that has done nothing
abbrev pub new_own : TableId → ℕ → Own
new_own z n = (fresh z n).own

-- new passes, in their order
abbrev pub AreNew : TableId → List PassView → Type 0
AreNew z ps = (j : ℕ) (d : PassView) → j < length ps → (slice_index_or ps j d).own ≡ new_own z j

-- passes that are done, in their order
pub record AreBack (P : Bytecode) (steps : ℕ) (z : TableId) (ps : List PassView) : Type 0 where
  pub ids : (j : ℕ) (d : PassView) → j < length ps → (slice_index_or ps j d).own.id ≡ j
  pub finished : (j : ℕ) (d : PassView) → j < length ps → IsFinished P steps z (slice_index_or ps j d)

-- a worker without threads, with room for so many events
pub record IsEmptyCrew (room : ℕ) (crew : Crew) : Type 0 where
  pub none : crew.riders.items ≡ []
  pub has_room : room ≤ crew.lent.window
