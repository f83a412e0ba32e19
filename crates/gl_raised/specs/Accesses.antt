-- The accesses of a record, as they are judged: of each entry what it says of races, and of each of its variables one access.
use Rattle.std.specs.Prelude.{ℕ, ◌+◌, ◌-◌, ◌^◌, ◌<◌, ◌==◌, min, Bool, true, false, not, if◌then◌else◌, List, [], ◌∷◌, map, find, Option, Some, None, is_some}
use Rattle.gl_model.specs.Entries.{Entry, Sync, Commit, Plain, Abort, Trim, Over}
use Rattle.gl_model.specs.declared.limits.TheConstants.{THREADS, VARIABLES}
use Rattle.gl_model.specs.declared.tx.Number.{Number}
use Rattle.gl_model.specs.declared.tx.Pair.{Pair}
use Rattle.gl_model.specs.declared.tx.Why.TheVariants.{Changed, Raised}
use Rattle.gl_places.specs.declared.place.Place.{Place as StoredPlace}
use Rattle.gl_raised.specs.declared.access.Access.{Access}
use Rattle.gl_raised.specs.declared.access.Claim.{Claim}

-- an access: a plain entry, a commit, or an attempt that was refused for a race
abbrev pub IsAccess : Entry → Type 0
IsAccess (Sync at act value) = ⊥
IsAccess (Commit at tx) = Unit {0}
IsAccess (Plain var nth cached write value raised) = Unit {0}
IsAccess (Abort tx (Raised var)) = Unit {0}
IsAccess (Abort tx (Changed var read found)) = ⊥
IsAccess (Trim low) = ⊥
IsAccess (Over ending) = ⊥

-- the variable on which the entry was raised, if it was
abbrev pub raised_on : Entry → Option ℕ
raised_on (Sync at act value) = None
raised_on (Commit at tx) = None
raised_on (Plain var nth cached write value raised) = if raised then Some var else None
raised_on (Abort tx (Raised var)) = Some var
raised_on (Abort tx (Changed var read found)) = None
raised_on (Trim low) = None
raised_on (Over ending) = None

-- how many events stood in the list when a plain access was made in the block, as far as can be counted
abbrev pub tick_after : ℕ → ℕ
tick_after block = min (block + 1) (2 ^ 64 - 1)

-- the block after the entry
abbrev pub block_after : ℕ → Entry → ℕ
block_after block (Sync at act value) = at
block_after block (Commit at tx) = at
block_after block (Plain var nth cached write value raised) = block
block_after block (Abort tx why) = block
block_after block (Trim low) = block
block_after block (Over ending) = block

-- a transaction writes the variable
abbrev pub writes_one : List Pair → ℕ → Bool
writes_one writes x = is_some (find (λ p. p.var == x) writes)

-- the access of one variable of a commit, or of a refused one
abbrev pub part_of : ℕ → ℕ → ℕ → Bool → List Pair → Number → Access
part_of claim thread tick performed writes n = record {
  var = n.var;
  nth = n.nth;
  claim = claim;
  thread = thread;
  tick = tick;
  commit = true;
  write = writes_one writes n.var;
  performed = performed;
}

-- the access of a plain entry
abbrev pub plain_of : ℕ → ℕ → ℕ → ℕ → ℕ → Bool → Bool → Access
plain_of claim thread block x k write raised = record {
  var = x;
  nth = k;
  claim = claim;
  thread = thread;
  tick = tick_after block;
  commit = false;
  write = write;
  performed = not raised;
}

-- the accesses of an entry of the thread in the block
abbrev pub accesses_of : ℕ → ℕ → ℕ → Entry → List Access
accesses_of claim thread block (Sync at act value) = []
accesses_of claim thread block (Commit at tx) = map (part_of claim thread block true tx.writes) tx.numbers
accesses_of claim thread block (Plain var nth cached write value raised) = plain_of claim thread block var nth write raised ∷ []
accesses_of claim thread block (Abort tx (Raised var)) = map (part_of claim thread block false tx.writes) tx.numbers
accesses_of claim thread block (Abort tx (Changed var read found)) = []
accesses_of claim thread block (Trim low) = []
accesses_of claim thread block (Over ending) = []

-- what an entry says of races, where it is an access
abbrev pub claims_of : StoredPlace → ℕ → Entry → List Claim
claims_of place block (Sync at act value) = []
claims_of place block (Commit at tx) = record { place = place; block = block; raised = None } ∷ []
claims_of place block (Plain var nth cached write value raised) =
    record { place = place; block = block; raised = if raised then Some var else None } ∷ []
claims_of place block (Abort tx (Raised var)) = record { place = place; block = block; raised = Some var } ∷ []
claims_of place block (Abort tx (Changed var read found)) = []
claims_of place block (Trim low) = []
claims_of place block (Over ending) = []

-- the access is of a variable and a thread that there are, and of one of so many claims
abbrev pub IsWithin : ℕ → Access → Type 0
IsWithin claims a = (a.var < VARIABLES) × (a.thread < THREADS) × (a.claim < claims)
