-- Whether an entry races with a refused one, as it is told from numbers and a clock.
use Rattle.std.specs.Prelude.{◌≡◌, ℕ, ◌+◌, ◌-◌, ◌^◌, ◌≤◌, ◌==◌, ◌&&◌, ◌||◌, min, nat_lt, nat_le, Bool, true, false, not, if◌then◌else◌, List, find, option_map, slice_get, is_some, Option, Some, None}
use Rattle.std.specs.List.{filter}
use Rattle.gl_core.specs.Cells.{at}
use Rattle.gl_model.specs.Entries.{Entry, Sync, Commit, Plain, Abort, Trim, Over}
use Rattle.gl_model.specs.declared.tx.Number.{Number}
use Rattle.gl_model.specs.declared.tx.Tx.{Tx}
use Rattle.gl_model.specs.declared.tx.Why.TheVariants.{Changed, Raised}
use Rattle.gl_places.specs.Places.{seen}
use Rattle.gl_causes.specs.declared.races.Asked.{Asked}
use Rattle.gl_causes.specs.declared.races.Latest.{Latest}
use Rattle.gl_causes.specs.declared.refusals.Refusal.{Refusal}
use Rattle.gl_causes.specs.Stands.{Stand}
use Rattle.gl_raised.specs.Accesses.{writes_one}

-- the number on x, if there is one
abbrev pub number_on : List Number → ℕ → Option ℕ
number_on numbers x = option_map (λ n. n.nth) (find (λ n. n.var == x) numbers)

-- the number that a performed access drew on x for itself, if it did
abbrev pub own_number : ℕ → Entry → Option ℕ
own_number x (Sync at act value) = None
own_number x (Commit at tx) = number_on tx.numbers x
own_number x (Plain var nth cached write value raised) = if var == x && (not cached && not raised) then Some nth else None
own_number x (Abort tx why) = None
own_number x (Trim low) = None
own_number x (Over ending) = None

-- an access of x writes it
abbrev pub writes_to : ℕ → Entry → Bool
writes_to x (Sync at act value) = false
writes_to x (Commit at tx) = writes_one tx.writes x
writes_to x (Plain var nth cached write value raised) = write
writes_to x (Abort tx why) = writes_one tx.writes x
writes_to x (Trim low) = false
writes_to x (Over ending) = false

abbrev pub is_plain : Entry → Bool
is_plain (Sync at act value) = false
is_plain (Commit at tx) = false
is_plain (Plain var nth cached write value raised) = true
is_plain (Abort tx why) = false
is_plain (Trim low) = false
is_plain (Over ending) = false

-- how many events stood in the list when the entry of the block was made, as far as can be counted: an event is in its own block
abbrev pub tick_in : ℕ → Entry → ℕ
tick_in block (Sync at act value) = block
tick_in block (Commit at tx) = block
tick_in block (Plain var nth cached write value raised) = min (block + 1) (2 ^ 64 - 1)
tick_in block (Abort tx why) = block
tick_in block (Trim low) = block
tick_in block (Over ending) = block

-- the number on the variable that an attempt was refused for
abbrev pub attempt_where : Tx → ℕ → Option ℕ → Option Refusal
attempt_where tx x None = None
attempt_where tx x (Some k) = Some (record { var = x; nth = k; plain = false; write = writes_one tx.writes x })

-- on which variable the entry was refused, with its number there, if it was
abbrev pub refusal_of : Entry → Option Refusal
refusal_of (Sync at act value) = None
refusal_of (Commit at tx) = None
refusal_of (Plain var nth cached write value raised) =
    if raised then Some (record { var = var; nth = nth; plain = true; write = write }) else None
refusal_of (Abort tx (Raised var)) = attempt_where tx var (number_on tx.numbers var)
refusal_of (Abort tx (Changed var read found)) = None
refusal_of (Trim low) = None
refusal_of (Over ending) = None

-- an access with this number races with the refused one
abbrev pub is_race : Asked → Stand → ℕ → Bool
is_race a s k =
    not (s.place.thread == a.thread) && (nat_lt k a.refusal.nth && ((writes_to a.refusal.var s.entry || a.refusal.write)
    && ((is_plain s.entry || a.refusal.plain) && nat_le (at a.known s.place.thread) (tick_in s.block s.entry))))

abbrev pub race_where : Asked → Stand → Option ℕ → Option ℕ
race_where a s None = None
race_where a s (Some k) = if is_race a s k then Some k else None

-- the number on the variable of an entry that races with the refused one
abbrev pub race_number : Asked → Stand → Option ℕ
race_number a s = race_where a s (own_number a.refusal.var s.entry)

-- those of them that race with it
abbrev pub races_among : Asked → List Stand → List Stand
races_among a stands = filter (λ s. is_some (race_number a s)) stands

-- the one of them with the greatest number
abbrev pub IsLatest : Asked → List Stand → Option Latest → Type 0
IsLatest a stands None = (i : ℕ) (s : Stand) → slice_get stands i ≡ Some s → race_number a s ≡ None
IsLatest a stands (Some w) =
    ((i : ℕ) × ((s : Stand) × (slice_get stands i ≡ Some s) × (s.place ≡ seen w.place) × (race_number a s ≡ Some w.nth))) ×
    ((i : ℕ) (s : Stand) (k : ℕ) → slice_get stands i ≡ Some s → race_number a s ≡ Some k → k ≤ w.nth)

-- the later one of the last so far and of this
abbrev pub later : Option Latest → Latest → Option Latest
later None w = Some w
later (Some before) w = if nat_lt w.nth before.nth then Some before else Some w
