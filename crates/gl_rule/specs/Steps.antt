-- The kinds of step of the table. Each kind says: whatever the table is, where the pass meets the condition, the step keeps the rule and
-- tells what is stated. `table.Allows (Rule key) slots id (v, c) i f tells` reads: the seat id, whose view is v and which carries the slots
-- c, may change word i from n to f n, and n and its new view and slots are as `tells` says.
use Rattle.std.specs.Prelude.{◌≡◌, ◌≢◌, ℕ, ◌+◌, ◌*◌, ◌%◌, ◌^◌, ◌<◌, ◌≤◌, ◌==◌, Bool, true, false, List, [], ◌∷◌, length, slice_set, max, Contains, Option, ℤ, pos}
use Rattle.std.specs.List.{All}
use mathlib.Core.Option.{some}
use lib.ListN.{get_elem?}
use prog.Atomic.{either}
use Rattle.atomic_table.specs.Table as table
use Rattle.gl_model.specs.declared.event.Act.{Act}
use Rattle.gl_model.specs.declared.event.Event.TheVariants.{Act as Does, Commit as Commits}
use Rattle.gl_model.specs.declared.row.Question.{Question}
use Rattle.gl_model.specs.declared.row.Row.{Row}
use Rattle.gl_model.specs.declared.tx.Tx.{Tx}
use Rattle.gl_model.specs.Entries.{Entry, Sync, Commit}
use Rattle.gl_model.specs.Machine.{start}
use Rattle.gl_model.specs.Records.{variables_of}
use Rattle.gl_draws.specs.Draws.{Entered, draw}
use Rattle.gl_state.specs.ListView.{ListView}
use Rattle.gl_state.specs.States.{IsStateOf}
use Rattle.gl_rule.specs.declared.slot.Slot.{Slot}
use Rattle.gl_rule.specs.declared.slot.Slot.TheVariants as slot
use Rattle.gl_rule.specs.Adding.{Adding}
use Rattle.gl_rule.specs.Closed.{IsDone}
use Rattle.gl_rule.specs.Commits.{MayCommit, MayPay, paid, drew_commit}
use Rattle.gl_rule.specs.Fitting.{MayLeave, SaysQuiet, MayWalk, MayPublish, MayStoreWord, MayRaise, MayTrim, MayMark, MayOpen}
use Rattle.gl_rule.specs.Objects.{Key, capacity, objects, stop_word, cell_at}
use Rattle.gl_rule.specs.Opened.{first_words, first_slots, empty_shelves}
use Rattle.gl_rule.specs.Rule.{Rule}
use Rattle.gl_rule.specs.Told.{Took, Left, SawTail, Saw, SawStop, SawHold, SawFloor, SawCell, SawEvent, PutWord, Published, PublishedAct, Raised, Lowered, Marked, Opened}
use Rattle.gl_rule.specs.View.{View, Shelf, shelf, Held, HasObject, SetStop, blank, both}

-- the turn of an object that the pass does not hold is tried, and taken where it is free
abbrev pub TakesTurn : Type 0
TakesTurn =
    (key : Key) (slots id k : ℕ) (v : View) (c : List (ℕ × Slot)) (s : Shelf) → k < objects → v.shelves ≡ s ∷ [] → (HasObject v k → ⊥) →
    table.Allows (Rule key) slots id (v, c) (3 * k + 1) (λ n. either (n == 0) (s.thread + 1) n) (Took key.setting k v c)

-- an object that is held is put back
abbrev pub LeavesTurn : Type 0
LeavesTurn =
    (key : Key) (slots id : ℕ) (v : View) (c : List (ℕ × Slot)) (s : Shelf) (h : Held) (y : Slot) (q : Bool) → objects ≤ slots → v.shelves
    ≡ s ∷ [] →
    Contains v.held h → MayLeave key.setting s v h y → (q ≡ true → SaysQuiet h.object h.taken) →
    table.Allows (Rule key) slots id (v, (h.object, y) ∷ c) (3 * h.object + 1) (λ _. 0) (λ _. Left h.object q v ((h.object, y) ∷ c))

-- a value that is owed is put into the row, and the row is put back
abbrev pub WritesBack : Type 0
WritesBack =
    (key : Key) (slots id : ℕ) (v : View) (c : List (ℕ × Slot)) (s : Shelf) (h : Held) (x : ℕ) (taken : Row) (value : ℤ) → objects ≤ slots
    → v.shelves ≡ s ∷ [] →
    MayPay v h x taken value →
    table.Allows (Rule key) slots id (v, (h.object, slot.Row (record taken { value = value })) ∷ c) (3 * h.object + 1) (λ _. 0)
    (λ _. Left h.object false (paid v h x (slot.Row (record taken { value = value })))
    ((h.object, slot.Row (record taken { value = value })) ∷ c))

-- the tail is loaded
abbrev pub LoadsTail : Type 0
LoadsTail = (key : Key) (slots id : ℕ) (v : View) (c : List (ℕ × Slot)) → table.Allows (Rule key) slots id (v, c) 0 (λ n. n) (SawTail v c)

-- a hold is loaded; that of object 0 is the first segment that is kept
abbrev pub LoadsHold : Type 0
LoadsHold = (key : Key) (slots id k : ℕ) (v : View) (c : List (ℕ × Slot)) → k < objects
    → table.Allows (Rule key) slots id (v, c) (3 * k + 2) (λ n. n) (SawHold k v c)

-- the hold of a row that is held is loaded
abbrev pub LoadsFloor : Type 0
LoadsFloor =
    (key : Key) (slots id : ℕ) (v : View) (c : List (ℕ × Slot)) (h : Held) → Contains v.held h → h.object ≢ 0 →
    table.Allows (Rule key) slots id (v, c) (3 * h.object + 2) (λ n. n) (SawFloor h v c)

-- the stop word is loaded
abbrev pub LoadsStop : Type 0
LoadsStop = (key : Key) (slots id : ℕ) (v : View) (c : List (ℕ × Slot))
    → table.Allows (Rule key) slots id (v, c) stop_word (λ n. n) (SawStop v c)

-- one word of the event at position p is loaded
abbrev pub LoadsCell : Type 0
LoadsCell =
    (key : Key) (slots id p i : ℕ) (v : View) (c : List (ℕ × Slot)) → i < 5 → p < v.seen → MayWalk v p →
    table.Allows (Rule key) slots id (v, c) (cell_at (capacity key) p i) (λ n. n) (SawCell (capacity key) p i v c)

-- its last word is loaded, and with it the event is known
abbrev pub LoadsEvent : Type 0
LoadsEvent =
    (key : Key) (slots id p : ℕ) (v : View) (c : List (ℕ × Slot)) → p < v.seen → MayWalk v p →
    table.Allows (Rule key) slots id (v, c) (cell_at (capacity key) p 4) (λ n. n) (SawEvent (capacity key) p v c)

-- the next word is stored in the cell of the tail
abbrev pub StoresWord : Type 0
StoresWord =
    (key : Key) (slots id n : ℕ) (v : View) (c : List (ℕ × Slot)) (h : Held) (tail : ℕ) → MayStoreWord key v h tail →
    table.Allows (Rule key) slots id (v, c) (cell_at (capacity key) tail (length v.stored)) (λ _. n) (λ _. PutWord n v c)

-- the stop word is set
abbrev pub SetsStop : Type 0
SetsStop = (key : Key) (slots id : ℕ) (v : View) (c : List (ℕ × Slot))
    → table.Allows (Rule key) slots id (v, c) stop_word (λ _. 1) (λ _. Saw SetStop v c)

-- the hold of a row is raised, with Infos moved up to it
abbrev pub RaisesHold : Type 0
RaisesHold =
    (key : Key) (slots id : ℕ) (v : View) (c : List (ℕ × Slot)) (s : Shelf) (h : Held) (x : ℕ) (taken row : Row) (to : ℕ) → v.shelves ≡ s
    ∷ [] →
    MayRaise key.setting s v h x taken row to →
    table.Allows (Rule key) slots id (v, c) (3 * h.object + 2) (λ _. to) (λ _. Raised h (slot.Row row) to v c)

-- the first segment that is kept is raised
abbrev pub RaisesLow : Type 0
RaisesLow =
    (key : Key) (slots id to : ℕ) (v : View) (c : List (ℕ × Slot)) (s : Shelf) → v.shelves ≡ s ∷ [] → MayTrim key s v to →
    table.Allows (Rule key) slots id (v, c) 2 (λ n. max n to) (Lowered s to v c)

-- an act is published
abbrev pub PublishesAct : Type 0
PublishesAct =
    (key : Key) (slots id : ℕ) (v : View) (c : List (ℕ × Slot)) (s : Shelf) (h : Held) (l l' : ListView) (act : Act) (value : ℤ)
    → v.shelves ≡ s ∷ [] → v.drawn ≡ [] →
    MayPublish key s v h l l' (λ n. Sync n act value) (record { thread = s.thread; event = Does act }) value →
    table.Allows (Rule key) slots id (v, c) 0 (λ n. (n + 1) % 2 ^ 64) (PublishedAct s act value (slot.List l') v c)

-- a commit is published
abbrev pub PublishesCommit : Type 0
PublishesCommit =
    (key : Key) (slots id : ℕ) (v : View) (c : List (ℕ × Slot)) (s : Shelf) (h : Held) (l l' : ListView) (tx : Tx) (p m : ℕ) (question : ℕ
    → Question) → v.shelves ≡ s ∷ [] →
    MayCommit key.setting s v tx p m question →
    MayPublish key s v h l l' (λ n. Commit n tx) (record { thread = s.thread; event = Commits (variables_of tx) }) (pos 0) →
    table.Allows (Rule key) slots id (v, c) 0 (λ n. (n + 1) % 2 ^ 64)
    (Published s (λ n. Commit n tx) (record { thread = s.thread; event = Commits (variables_of tx) }) (slot.List l')
    (λ n g. drew_commit (variables_of tx) (draw s.thread n (Entered (Commit n tx))) g) v c)

-- a plain access draws its number
abbrev pub MarksPlain : Type 0
MarksPlain =
    (key : Key) (slots id : ℕ) (v : View) (c : List (ℕ × Slot)) (s : Shelf) (h : Held) (x : ℕ) (taken : Row) (p : ℕ) (q : Question)
    (write : Bool) (value : ℤ) (raised : Bool) → v.shelves ≡ s ∷ [] →
    MayMark key.setting s v h x taken p q write value raised →
    table.Allows (Rule key) slots id (v, c) (3 * h.object) (λ n. (n + 1) % 2 ^ 64) (Marked s h x p write value raised v c)

-- a look, or the end of an attempt, draws a number that waits for its entry
abbrev pub MarksOpen : Type 0
MarksOpen =
    (key : Key) (slots id : ℕ) (v : View) (c : List (ℕ × Slot)) (s : Shelf) (h : Held) (x : ℕ) (taken : Row) (p : ℕ) (look : Option ℤ)
    → v.shelves ≡ s ∷ [] →
    MayOpen s v h x taken p look →
    table.Allows (Rule key) slots id (v, c) (3 * h.object) (λ n. (n + 1) % 2 ^ 64) (Opened s h x p look v c)

-- what a pass added without a step is recorded: the rule holds with the view that it has then
abbrev pub RecordsAdded : Type 0
RecordsAdded =
    (key : Key) (s : table.State Slot View) (id : ℕ) (v u : View) (more : List Entry) → Adding v more u → Rule key s → get_elem? s.views id
    ≡ some v →
    Rule key (record { words = s.words; homes = s.homes; views = slice_set s.views id u })

-- a table begins with the rule
abbrev pub Begins : Type 0
Begins =
    (key : Key) (l : ListView) → IsStateOf l (start key.setting) →
    Rule key (table.opening (first_words key) (first_slots l) (blank empty_shelves))

-- a seat that knows nothing comes in
abbrev pub EntersSeat : Type 0
EntersSeat = (key : Key) (slots i : ℕ) → table.Enters (Rule key) slots i (λ n u. u ≡ blank [])

-- a seat that has the lists of several threads gives the first away
abbrev pub SplitsSeat : Type 0
SplitsSeat =
    (key : Key) (id t : ℕ) (v : View) (l : List Shelf) → v ≡ blank (shelf t [] ∷ l) → All (λ (r : Shelf). r.thread ≢ t) l →
    table.Splits (Rule key) id v (blank l) (blank (shelf t [] ∷ []))

-- a seat takes in the lists of another, where all lists of both are done and neither holds anything
abbrev pub JoinsSeats : Type 0
JoinsSeats =
    (key : Key) (id other : ℕ) (v u : View) (r s : Shelf) → Contains v.shelves r → Contains u.shelves s → v.held ≡ [] → u.held ≡ [] →
    ((a : Shelf) → Contains v.shelves a → IsDone a.marked v.quiet) → ((a : Shelf) → Contains u.shelves a → IsDone a.marked u.quiet) →
    table.Joins (Rule key) id v other u (both v u) (blank [])
