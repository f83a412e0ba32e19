-- What a seat knows: the lists that its pass has stored, and what it has seen, holds, drew and owes. The table sees views alone; a pass's
-- own data are tied to its view.
use Rattle.std.specs.Prelude.{◌≡◌, ℕ, ◌+◌, ℤ, Bool, false, suc, ◌==◌, not, ◌||◌, if◌then◌else◌, List, [], ◌∷◌, ◌++◌, map, length, max, nat_lt, Contains, Option, Some, None}
use Rattle.std.specs.List.{filter}
use Rattle.gl_model.specs.declared.event.Stamp.{Stamp}
use Rattle.gl_model.specs.Entries.{Entry, Trim}
use Rattle.gl_draws.specs.Draws.{Draw}
use Rattle.gl_draws.specs.Ties.{Drawn}
use Rattle.gl_rule.specs.declared.slot.Slot.{Slot}

-- a thread and its entries, as its last step recorded them
pub record Shelf : Type 0 where
  pub thread : ℕ
  pub marked : List Entry

-- thread t with these entries
abbrev pub shelf : ℕ → List Entry → Shelf
shelf t l = record { thread = t; marked = l }

-- an object that is held
pub record Held : Type 0 where
  pub object : ℕ
  -- the list's state as it has to come back; a row as it was taken, or as the last raise of its hold left it
  pub taken : Slot
  -- what was taken at first
  pub first : Slot
  -- the tails that were loaded or made since then
  pub tails : List ℕ
  -- what was drawn on it since then
  pub drew : Option Draw
  -- the hold, where it was loaded or raised since then
  pub floor : Option ℕ

-- what a try on a turn, or a load, gave; and that the stop word was set
pub data Read : Type 0 where
  -- the pass that holds the object
  Busy : (object : ℕ) → (by : ℕ) → Read
  -- what was taken
  Taken : (object : ℕ) → (value : Slot) → Read
  -- the hold of a row; of the list, the first segment
  Hold : (object : ℕ) → (n : ℕ) → Read
  Stop : (n : ℕ) → Read
  -- that it set the stop word itself
  SetStop : Read

-- a word of a cell
pub record CellWord : Type 0 where
  pub position : ℕ
  pub index : ℕ
  pub word : ℕ

-- how many atomic steps a seat made: loads of words of cells, stores of words of cells, and all others, on words and on slots
pub record Moves : Type 0 where
  pub loads : ℕ
  pub stores : ℕ
  pub others : ℕ

abbrev pub no_moves : Moves
no_moves = record { loads = 0; stores = 0; others = 0 }

-- n loads of words of cells more
abbrev pub with_loads : ℕ → Moves → Moves
with_loads n m = record m { loads = m.loads + n }

-- n stores of words of cells more
abbrev pub with_stores : ℕ → Moves → Moves
with_stores n m = record m { stores = m.stores + n }

-- n steps more, on no word of a cell
abbrev pub moved : ℕ → Moves → Moves
moved n m = record m { others = m.others + n }

abbrev pub both_moves : Moves → Moves → Moves
both_moves m n = record { loads = m.loads + n.loads; stores = m.stores + n.stores; others = m.others + n.others }

-- what a seat knows
pub record View : Type 0 where
  pub shelves : List Shelf
  pub seen : ℕ
  pub known : List (ℕ × Stamp)
  pub held : List Held
  pub drawn : List Drawn
  pub reads : List Read
  pub quiet : Bool
  -- values of variables that are not written back
  pub owed : List (ℕ × ℤ)
  -- the words in the cell of the tail
  pub stored : List ℕ
  -- the words of cells that were loaded
  pub loaded : List CellWord
  pub moves : Moves

-- a view of these lists that knows nothing else
abbrev pub blank : List Shelf → View
blank l = record {
  shelves = l;
  seen = 0;
  known = [];
  held = [];
  drawn = [];
  reads = [];
  quiet = false;
  owed = [];
  stored = [];
  loaded = [];
  moves = no_moves;
}

-- object k is held
abbrev pub HasObject : View → ℕ → Type 0
HasObject v k = (h : Held) × Contains v.held h × (h.object ≡ k)

-- the held objects but k
abbrev pub without : ℕ → List Held → List Held
without k held = filter (λ h. not (h.object == k)) held

-- object k, just taken with the value y
abbrev pub new_held : ℕ → Slot → Held
new_held k y = record { object = k; taken = y; first = y; tails = []; drew = None; floor = None }

-- object k was taken with the value y: its turn and its slot
abbrev pub took : View → ℕ → Slot → View
took v k y = record v { held = new_held k y ∷ v.held; reads = v.reads ++ Taken k y ∷ []; moves = moved 2 v.moves }

-- the turn of object k was read as held by a pass
abbrev pub refused : View → ℕ → ℕ → View
refused v k by = record v { reads = v.reads ++ Busy k by ∷ []; moves = moved 1 v.moves }

-- the object was put back, its slot and its turn; q says whether the state was quiet
abbrev pub left : View → ℕ → Bool → View
left v k q = record v {
  held = without k v.held;
  quiet = v.quiet || q;
  stored = if k == 0 then [] else v.stored;
  moves = moved 2 v.moves;
}

-- a tail was seen while the object is held
abbrev pub with_tail : ℕ → Held → Held
with_tail n h = record h { tails = n ∷ h.tails }

-- the tail was seen to be n
abbrev pub saw_tail : View → ℕ → View
saw_tail v n = record v { seen = n; held = map (with_tail n) v.held; moves = moved 1 v.moves }

-- something else was read
abbrev pub saw : View → Read → View
saw v r = record v { reads = v.reads ++ r ∷ []; moves = moved 1 v.moves }

-- a word of a cell was loaded
abbrev pub saw_cell : View → CellWord → View
saw_cell v c = record v { loaded = v.loaded ++ c ∷ []; moves = with_loads 1 v.moves }

-- known from the words of a cell
abbrev pub knows : View → ℕ → Stamp → View
knows v p x = record v { known = v.known ++ (p, x) ∷ [] }

-- a word was stored in the cell of the tail
abbrev pub put_word : View → ℕ → View
put_word v n = record v { stored = v.stored ++ n ∷ []; moves = with_stores 1 v.moves }

-- these words were stored in it, which was empty before
abbrev pub filled : View → List ℕ → View
filled v words = record v { stored = words; moves = with_stores (length words) v.moves }

-- a held object after an event was published at n: the list's state is y, and n + 1 is its tail; what was drawn on a row is as drew says
abbrev pub after_publish : ℕ → Slot → (Held → Option Draw) → Held → Held
after_publish n y drew h = if h.object == 0 then record h { taken = y; tails = suc n ∷ [] }
    else record h { tails = suc n ∷ h.tails; drew = drew h }

-- thread t, which has stored l, stores e, the event x at position n, and the list's state becomes y
abbrev pub published : View → ℕ → List Entry → Entry → ℕ → Stamp → Slot → (Held → Option Draw) → View
published v t l e n x y drew = record v {
  shelves = shelf t (l ++ e ∷ []) ∷ [];
  seen = suc n;
  known = v.known ++ (n, x)
      ∷ [];
  held = map (after_publish n y drew) v.held;
  drawn = [];
  stored = [];
  moves = moved 1 v.moves;
}

-- the draw d of the held object h
abbrev pub with_draw_of : Held → Draw → List Held → List Held
with_draw_of h d held = record h { drew = Some d } ∷ without h.object held

-- a number was drawn on h: s is the list afterwards, and drawn the numbers that wait
abbrev pub marked : View → Shelf → List Drawn → Held → Draw → View
marked v s drawn h d = record v { shelves = s ∷ []; drawn = drawn; held = with_draw_of h d v.held; moves = moved 1 v.moves }

-- the hold of h is raised, and its row becomes y
abbrev pub raised : View → Held → Slot → ℕ → View
raised v h y to = record v {
  held = record h { taken = y; tails = v.seen ∷ []; floor = Some to } ∷ without h.object v.held;
  moves = moved 1 v.moves;
}

-- a view that takes in another's list, and what it read
abbrev pub both : View → View → View
both v u = record v {
  shelves = v.shelves ++ u.shelves;
  seen = max v.seen u.seen;
  reads = v.reads ++ u.reads;
  quiet = v.quiet || u.quiet;
  moves = both_moves v.moves u.moves;
}

-- the hold of a held object was loaded
abbrev pub saw_floor : View → Held → ℕ → View
saw_floor v h n = record v {
  held = record h { floor = Some n } ∷ without h.object v.held;
  reads = v.reads ++ Hold h.object n ∷ [];
  moves = moved 1 v.moves;
}

-- the first segment was n and became at least to, and both were seen; thread t, which has stored l, stores a Trim where it rose
abbrev pub lowered : View → ℕ → List Entry → ℕ → ℕ → View
lowered v t l n to = record v {
  shelves = (if nat_lt n to then shelf t (l ++ Trim to ∷ []) else shelf t l) ∷ [];
  reads = (v.reads ++ Hold 0 n ∷ []) ++ Hold 0 (max n to) ∷ [];
  moves = moved 1 v.moves;
}
