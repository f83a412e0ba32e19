-- What a pass has to show. Where it is about the list of events, it is over each list that the pass cannot tell from the one in the table:
-- a list of as many events as it has seen, that the machine allows, with its own events and those that it knows in their places.
use Rattle.std.specs.Prelude.{◌≡◌, ℕ, ℤ, zero, suc, Bool, true, false, ◌+◌, ◌*◌, ◌<◌, ◌≤◌, List, [], length, slice_get, Contains, Option, Some, None, ◌↔◌, ◌⊎◌, pos}
use Rattle.std.specs.List.{All}
use Rattle.gl_model.specs.declared.event.Stamp.{Stamp}
use Rattle.gl_model.specs.declared.limits.TheConstants.{VARIABLES}
use Rattle.gl_model.specs.declared.row.Info.{Info}
use Rattle.gl_model.specs.declared.row.Row.{Row}
use Rattle.gl_model.specs.declared.row.Question.{Question}
use Rattle.gl_model.specs.Entries.{Entry}
use Rattle.gl_model.specs.Form.{At, IsEnd, IsOver, value_of}
use Rattle.gl_model.specs.Infos.{InfoFor}
use Rattle.gl_model.specs.Locksets.{Access}
use Rattle.gl_model.specs.Machine.{Setting, State, Allows, Step}
use Rattle.gl_model.specs.Records.{position_of, event_of}
use Rattle.gl_draws.specs.Draws.{Draw}
use Rattle.gl_draws.specs.Events.{AreEvents}
use Rattle.gl_draws.specs.RowFacts.{read_of, RowStands, SomeFails}
use Rattle.gl_draws.specs.Ties.{Drawn, last_position, counted}
use Rattle.gl_rule.specs.declared.slot.Slot.{Slot}
use Rattle.gl_rule.specs.declared.slot.Slot.TheVariants as slot
use Rattle.gl_state.specs.States.{IsStateOf, IsQuiet}
use Rattle.gl_rule.specs.Values.{InRow, with_draw}
use Rattle.gl_rule.specs.Cells.{packed}
use Rattle.gl_state.specs.ListView.{ListView}
use Rattle.gl_rule.specs.Numbers.{count_on}
use Rattle.gl_rule.specs.Objects.{Key, capacity}
use Rattle.gl_model.specs.Elements.{IsEventInRange}
use Rattle.gl_draws.specs.Forming.{MayStore}
use Rattle.gl_rule.specs.View.{View, Held, Shelf, Hold}
use Rattle.gl_rule.specs.Bounded.{most_entries}

-- the list may be, up to what was seen, the one in the table
pub record IsFitting (setting : Setting) (s : Shelf) (seen : ℕ) (known : List (ℕ × Stamp)) (l : List Stamp) : Type 0 where
  pub long : length l ≡ seen
  pub now : State
  pub allowed : Allows setting l now
  pub knows : All (λ (k : ℕ × Stamp). k.0 < length l → slice_get l k.0 ≡ Some k.1) known
  pub own : AreEvents l s.thread s.marked

-- each Info of the row stands for some access
pub record InfosStand (setting : Setting) (l : List Stamp) (row : Row) : Type 0 where
  pub last_write : (i : Info) → row.last_write ≡ Some i → (a : Access) × InfoFor setting l i a true
  pub reads : (t : ℕ) (i : Info) → read_of row.reads t ≡ Some i → (a : Access) × InfoFor setting l i a false

-- a tail was seen since the row was taken
abbrev pub IsFresh : Held → Type 0
IsFresh h = (n : ℕ) × Contains h.tails n

-- the thread of these entries has not ended
abbrev pub IsNotOver : List Entry → Type 0
IsNotOver es = (i : ℕ) (e : Entry) → At es i e → IsEnd e → ⊥

-- what is asked of a row that is put back, where an Info may be another one: over each fitting list it is that of the draws of the row as
-- it was taken, and of the one made since
pub record Follows (setting : Setting) (s : Shelf) (v : View) (h : Held) (x : ℕ) (taken row : Row) : Type 0 where
  pub fresh : IsFresh h
  pub follows : (l : List Stamp) → IsFitting setting s v.seen v.known l → (ds : List Draw) → RowStands setting l x ds taken
      → RowStands setting l x (with_draw h.drew ds) row

-- where no Info changed it is so over every list
pub record Stays (setting : Setting) (h : Held) (x : ℕ) (taken row : Row) : Type 0 where
  pub stays : (l : List Stamp) (ds : List Draw) → RowStands setting l x ds taken → RowStands setting l x (with_draw h.drew ds) row

-- the row of x, taken as taken, may be put back as row
pub record MayPut (setting : Setting) (s : Shelf) (v : View) (h : Held) (x : ℕ) (taken row : Row) : Type 0 where
  pub right : Follows setting s v h x taken row ⊎ Stays setting h x taken row
  -- an Info stands at or behind a tail that was seen since, or no lower than one of the row as it was taken
  pub above : (i : Info) → InRow row i → ((n : ℕ) × Contains h.tails n × (n ≤ i.pos)) ⊎ ((o : Info) × InRow taken o × (o.pos ≤ i.pos))

-- what is asked of an object that is put back
abbrev pub MayLeaveAt : Setting → Shelf → View → Held → ℕ → Slot → Slot → Type 0
MayLeaveAt setting s v h zero taken y = y ≡ taken
MayLeaveAt setting s v h (suc x) (slot.Row taken) (slot.Row row) = MayPut setting s v h x taken row
MayLeaveAt setting s v h (suc x) (slot.Row taken) (slot.List l) = ⊥
MayLeaveAt setting s v h (suc x) (slot.Row taken) slot.Empty = ⊥
MayLeaveAt setting s v h (suc x) (slot.List l) y = ⊥
MayLeaveAt setting s v h (suc x) slot.Empty y = ⊥

-- the held object may be put back with the value y
abbrev pub MayLeave : Setting → Shelf → View → Held → Slot → Type 0
MayLeave setting s v h y = MayLeaveAt setting s v h h.object h.taken y

-- no thread of the list's state is live
abbrev pub SaysQuiet : ℕ → Slot → Type 0
SaysQuiet zero (slot.List l) = (now : State) → IsStateOf l now → IsQuiet now
SaysQuiet zero (slot.Row row) = ⊥
SaysQuiet zero slot.Empty = ⊥
SaysQuiet (suc x) y = ⊥

-- the pass may walk from p: it holds a row that it raised to p or below, or of which an Info stands at p or below
abbrev pub MayWalk : View → ℕ → Type 0
MayWalk v p =
    (h : Held) × Contains v.held h × ((x : ℕ) × (h.object ≡ suc x))
    × (((n : ℕ) × (h.floor ≡ Some n) × (n ≤ p)) ⊎ ((row : Row) × (i : Info) × (h.taken ≡ slot.Row row) × InRow row i × (i.pos ≤ p)))

-- what is asked of an event that is published, whatever it is: the state l becomes l', the entry at position n is entry n, and its stamp
-- is x
pub record MayPublish (key : Key) (s : Shelf) (v : View) (h : Held) (l l' : ListView) (entry : ℕ → Entry) (x : Stamp) (value : ℤ) : Type 0
  where
    pub held : Contains v.held h
    pub list : h.object ≡ 0
    pub state : h.taken ≡ slot.List l
    -- the tail, as it was seen since the list was taken, and room behind it by a load of the first segment
    pub tail : ℕ
    pub saw : Contains h.tails tail
    pub low : ℕ
    pub read : Contains v.reads (Hold 0 low)
    pub room : tail < low * key.cells + capacity key
    pub stored : v.stored ≡ packed x
    pub by : x.thread ≡ s.thread
    pub kept : IsEventInRange x.event
    pub position : (n : ℕ) → position_of (entry n) ≡ Some n
    pub event : (n : ℕ) → event_of (entry n) ≡ Some x.event
    pub carries : (n : ℕ) → value_of (entry n) ≡ value
    -- the event is a step of the state, which moves by it
    pub step : (now : State) → IsStateOf l now → (new : State) × Step key.setting now x value new × IsStateOf l' new
    pub form : MayStore s.thread s.marked (entry tail)
    pub paid : v.owed ≡ []
    pub few : counted s.marked < most_entries

-- what is asked of a word that is stored in the cell of the tail
pub record MayStoreWord (key : Key) (v : View) (h : Held) (tail : ℕ) : Type 0 where
  pub held : Contains v.held h
  pub list : h.object ≡ 0
  pub saw : Contains h.tails tail
  pub low : ℕ
  pub read : Contains v.reads (Hold 0 low)
  pub room : tail < low * key.cells + capacity key
  pub few : length v.stored < 5

-- what is asked of a hold that is raised, the row being row from then on
pub record MayRaise (setting : Setting) (s : Shelf) (v : View) (h : Held) (x : ℕ) (taken row : Row) (to : ℕ) : Type 0 where
  pub held : Contains v.held h
  pub object : h.object ≡ suc x
  pub is : h.taken ≡ slot.Row taken
  pub first : h.drew ≡ None
  pub right : Follows setting s v h x taken row
  pub above : (i : Info) → InRow row i → to ≤ i.pos
  pub seen : to ≤ v.seen
  -- the hold is at most that
  pub from : ((n : ℕ) × (h.floor ≡ Some n) × (n ≤ to)) ⊎ ((i : Info) × InRow taken i × (i.pos ≤ to))

-- what is asked of the first segment that is raised
pub record MayTrim (key : Key) (s : Shelf) (v : View) (to : ℕ) : Type 0 where
  pub holds : (x : ℕ) → x < VARIABLES → (n : ℕ) × Contains v.reads (Hold (suc x) n) × (to * key.cells ≤ n)
  pub not_over : IsNotOver s.marked
  pub still_open : (i : ℕ) (e : Entry) → At s.marked i e → IsOver e → ⊥

-- what is asked of any mark on the held row h of x, whose word and Infos are taken; the thread's last event is at p
pub record MayDraw (s : Shelf) (v : View) (h : Held) (x : ℕ) (taken : Row) (p : ℕ) : Type 0 where
  pub held : Contains v.held h
  pub object : h.object ≡ suc x
  pub is : h.taken ≡ slot.Row taken
  -- the row is as it was taken, and no mark was made on it since
  pub first : h.drew ≡ None
  -- the thread runs: it has an event, and has not ended
  pub block : last_position s.marked ≡ Some p
  pub goes_on : IsNotOver s.marked
  pub few : counted s.marked < most_entries
  pub paid : (o : ℕ × ℤ) → Contains v.owed o → o.0 ≡ x → ⊥

-- what is asked of a plain access, beside that
pub record MayMark (setting : Setting) (s : Shelf) (v : View) (h : Held) (x : ℕ) (taken : Row) (p : ℕ) (q : Question) (write : Bool)
    (value : ℤ) (raised : Bool) : Type 0 where
  pub draws : MayDraw s v h x taken p
  pub idle : v.drawn ≡ []
  pub fresh : IsFresh h
  pub by : q.thread ≡ s.thread
  pub plain : q.commit ≡ None
  pub writes : q.write ≡ write
  -- it is raised exactly where some conflicting Info fails its test, over each fitting list
  pub judged : (l : List Stamp) → IsFitting setting s v.seen v.known l → InfosStand setting l taken → (raised ≡ true) ↔ SomeFails l taken q
  pub reads : write ≡ false → raised ≡ false → value ≡ taken.value
  pub zero : raised ≡ true → write ≡ false → value ≡ pos 0

-- a look draws the first number of its attempt on the variable; before the number of an end there is at most that one
abbrev pub HasPlace : Option ℤ → ℕ → List Drawn → Type 0
HasPlace (Some value) x drawn = count_on x drawn ≡ 0
HasPlace None x drawn = count_on x drawn ≤ 1

-- what is asked of a number that waits for its entry: of a look with the row's word, or of the end of an attempt
pub record MayOpen (s : Shelf) (v : View) (h : Held) (x : ℕ) (taken : Row) (p : ℕ) (look : Option ℤ) : Type 0 where
  pub draws : MayDraw s v h x taken p
  pub word : (value : ℤ) → look ≡ Some value → value ≡ taken.value
  pub room : HasPlace look x v.drawn
