-- What each kind of step tells its seat: v is the view that the step begins with, c the slots that the seat has taken, n the word that it
-- found, w the seat's view and slots after it.
use Rattle.std.specs.Prelude.{◌≡◌, ◌≢◌, ℕ, Bool, ◌⊎◌, ◌∷◌, ◌<◌, ◌≤◌, ◌^◌, ◌+◌, ◌-◌, List, Contains, slice_index, Option, Some, None, [], ◌++◌, ℤ, false}
use Rattle.atomic_table.specs.Table as table
use Rattle.gl_model.specs.declared.limits.TheConstants.{THREADS}
use Rattle.gl_model.specs.declared.event.Act.{Act}
use Rattle.gl_model.specs.declared.event.Event.TheVariants.{Act as Does}
use Rattle.gl_model.specs.declared.event.Stamp.{Stamp}
use Rattle.gl_model.specs.declared.row.Row.{Row}
use Rattle.gl_model.specs.Machine.{Setting}
use Rattle.gl_draws.specs.RowFacts.{IsWithin}
use Rattle.gl_draws.specs.Ties.{Drawn}
use Rattle.gl_rule.specs.declared.slot.Slot.TheVariants as slot
use Rattle.gl_rule.specs.Taken.{TakenTold}
use Rattle.gl_rule.specs.Cells.{packed, HasSmallCode}
use Rattle.gl_model.specs.Elements.{IsStampInRange}
use Rattle.gl_rule.specs.declared.slot.Slot.{Slot}
use Rattle.gl_model.specs.Entries.{Entry, Plain, Sync}
use Rattle.gl_draws.specs.Draws.{Draw, draw, What, Entered, Looked, Open}
use Rattle.gl_rule.specs.View.{Hold, Stop, SetStop, View, Shelf, Held, published, put_word, raised, saw_floor, lowered, marked, shelf, Read, CellWord, took, refused, left, saw_tail, saw, saw_cell, knows}

-- a seat's view, and the slots that it has taken
abbrev pub Seat : Type 0
Seat = table.Me Slot View

-- the object was free, and its value, with which it was taken, is told. Or another pass holds it
abbrev pub Took : Setting → ℕ → View → List (ℕ × Slot) → ℕ → Seat → Type 0
Took setting k v c n w =
    ((n ≡ 0) × ((y : Slot) × (w ≡ (took v k y, (k, y) ∷ c)) × TakenTold setting v k y))
    ⊎ ((n ≢ 0) × (n ≤ THREADS) × (w ≡ (refused v k (n - 1), c)) × ((s : Shelf) → v.shelves ≡ s ∷ [] → n - 1 ≢ s.thread))

-- the object was put back; q says whether no thread was live in the list's state that was put back
abbrev pub Left : ℕ → Bool → View → List (ℕ × Slot) → Seat → Type 0
Left k q v c w = w ≡ (left v k q, table.rest c)

-- the tail was seen: it has not fallen, and each held row's Infos are within it
abbrev pub SawTail : View → List (ℕ × Slot) → ℕ → Seat → Type 0
SawTail v c n w = (w ≡ (saw_tail v n, c)) × (v.seen ≤ n)
    × ((h : Held) (row : Row) → Contains v.held h → h.taken ≡ slot.Row row → IsWithin row n)

-- the stop word was set
abbrev pub Saw : Read → View → List (ℕ × Slot) → Seat → Type 0
Saw r v c w = w ≡ (saw v r, c)

-- the stop word was seen: it has not fallen
abbrev pub SawStop : View → List (ℕ × Slot) → ℕ → Seat → Type 0
SawStop v c n w = (w ≡ (saw v (Stop n), c)) × (n ≤ 1) × ((m : ℕ) → Contains v.reads (Stop m) → m ≤ n) × (Contains v.reads SetStop → n ≡ 1)

-- word i of the event at p was seen; the tail was not so far ahead that the cell was given again
abbrev pub SawCell : ℕ → ℕ → ℕ → View → List (ℕ × Slot) → ℕ → Seat → Type 0
SawCell cap p i v c n w = (v.seen ≤ p + cap) × (w ≡ (saw_cell v (record { position = p; index = i; word = n }), c))

-- the last word of the event at p: the event, with all words of it that were loaded
abbrev pub SawEvent : ℕ → ℕ → View → List (ℕ × Slot) → ℕ → Seat → Type 0
SawEvent cap p v c n w =
    (x : Stamp) × IsStampInRange x × HasSmallCode x
    × ((q : CellWord) → Contains (saw_cell v (record { position = p; index = 4; word = n })).loaded q → q.position ≡ p → q.word
    ≡ slice_index (packed x) q.index) × (v.seen ≤ p + cap)
    × (w ≡ (knows (saw_cell v (record { position = p; index = 4; word = n })) p x, c))

-- a hold was seen, which is no less than it was seen to be before
abbrev pub SawHold : ℕ → View → List (ℕ × Slot) → ℕ → Seat → Type 0
SawHold k v c n w = (w ≡ (saw v (Hold k n), c)) × ((m : ℕ) → Contains v.reads (Hold k m) → m ≤ n)

-- each tail that was seen while the list was held is n
abbrev pub IsTailOf : List Held → ℕ → Type 0
IsTailOf held n = (h : Held) (m : ℕ) → Contains held h → h.object ≡ 0 → Contains h.tails m → m ≡ n

-- an event was published, at the tail that was seen while the list was held: the entry, the stamp and the list's new state
abbrev pub Published : Shelf → (ℕ → Entry) → Stamp → Slot → (ℕ → Held → Option Draw) → View → List (ℕ × Slot) → ℕ → Seat → Type 0
Published s entry x y drew v c n w = (n + 1 < 2 ^ 64) × (v.seen ≤ n) × (w ≡ (published v s.thread s.marked (entry n) n x y (drew n), c))
    × IsTailOf v.held n

-- the hold of an object that the pass holds, which is as it was loaded or raised since the object was taken
abbrev pub SawFloor : Held → View → List (ℕ × Slot) → ℕ → Seat → Type 0
SawFloor h v c n w = (w ≡ (saw_floor v h n, c)) × ((m : ℕ) → h.floor ≡ Some m → n ≡ m)

-- a word was stored in the cell of the tail
abbrev pub PutWord : ℕ → View → List (ℕ × Slot) → Seat → Type 0
PutWord word v c w = w ≡ (put_word v word, c)

-- the hold of h was raised, and its row became y
abbrev pub Raised : Held → Slot → ℕ → View → List (ℕ × Slot) → Seat → Type 0
Raised h y to v c w = w ≡ (raised v h y to, c)

-- the first segment that is kept was n, and became at least `to`
abbrev pub Lowered : Shelf → ℕ → View → List (ℕ × Slot) → ℕ → Seat → Type 0
Lowered s to v c n w = w ≡ (lowered v s.thread s.marked n to, c)

-- n is above the numbers of x that the pass drew and that wait for their entry
abbrev pub IsAboveDrawn : ℕ → ℕ → List Drawn → Type 0
IsAboveDrawn x n drawn = (k : ℕ) (look : Option ℤ) → Contains drawn (record { var = x; nth = k; look = look }) → k < n

-- a plain access drew n
abbrev pub Marked : Shelf → Held → ℕ → ℕ → Bool → ℤ → Bool → View → List (ℕ × Slot) → ℕ → Seat → Type 0
Marked s h x p write value raised v c n w =
    (n + 1 < 2 ^ 64) × (w ≡ (
      marked v (shelf s.thread (s.marked ++ Plain x n false write value raised ∷ [])) v.drawn h
          (draw s.thread p (Entered (Plain x n false write value raised))),
      c,
    )) × IsAboveDrawn x n v.drawn

-- what a number that waits is for
abbrev pub what_of : Option ℤ → What
what_of (Some value) = Looked value
what_of None = Open

-- a look, with the value that it saw, or the end of an attempt drew n, which waits for its entry
abbrev pub Opened : Shelf → Held → ℕ → ℕ → Option ℤ → View → List (ℕ × Slot) → ℕ → Seat → Type 0
Opened s h x p look v c n w = (n + 1 < 2 ^ 64)
    × (w ≡ (marked v s (v.drawn ++ record { var = x; nth = n; look = look } ∷ []) h (draw s.thread p (what_of look)), c))
    × IsAboveDrawn x n v.drawn

-- an act was published
abbrev pub PublishedAct : Shelf → Act → ℤ → Slot → View → List (ℕ × Slot) → ℕ → Seat → Type 0
PublishedAct s act value y v c n w = Published s (λ k. Sync k act value) (record { thread = s.thread; event = Does act }) y (λ k g. g.drew)
    v c n w
