-- What is asked of a transaction's end, beside what is asked of any event: of a commit, of an attempt that is dropped because a word was
-- changed or because it would race, and of a cached write that is written back; and the views that they leave.
use Rattle.std.specs.Prelude.{◌≡◌, ℕ, ℤ, ◌==◌, not, zero, suc, Bool, true, false, ◌<◌, if◌then◌else◌, List, [], ◌∷◌, ◌++◌, map, Contains, Option, Some, None, ◌↔◌}
use Rattle.std.specs.List.{filter}
use Rattle.gl_rule.specs.declared.slot.Slot.{Slot}
use Rattle.gl_model.specs.declared.event.Stamp.{Stamp}
use Rattle.gl_model.specs.declared.row.Row.{Row}
use Rattle.gl_model.specs.declared.row.Question.{Question}
use Rattle.gl_model.specs.declared.tx.Look.{Look}
use Rattle.gl_model.specs.declared.tx.Tx.{Tx}
use Rattle.gl_model.specs.declared.tx.Why.{Why}
use Rattle.gl_model.specs.declared.tx.Why.TheVariants.{Changed, Raised}
use Rattle.gl_model.specs.Entries.{Entry, Commit, Plain, Abort}
use Rattle.gl_model.specs.Form.{NumbersName, EntryForm}
use Rattle.gl_model.specs.Machine.{Setting}
use Rattle.gl_model.specs.Records.{variables_of, Writes}
use Rattle.gl_model.specs.Trace.{is_in}
use Rattle.gl_draws.specs.Draws.{Draw, draw, Open}
use Rattle.gl_draws.specs.RowFacts.{SomeFails}
use Rattle.gl_draws.specs.Ties.{last_position}
use Rattle.gl_draws.specs.Verdicts.{LooksHave}
use Rattle.gl_rule.specs.declared.slot.Slot.TheVariants as slot
use Rattle.gl_rule.specs.Fitting.{IsFitting, InfosStand, IsNotOver}
use Rattle.gl_rule.specs.Knowledge.{AreBelow}
use Rattle.gl_rule.specs.Owed.{with_owed}
use Rattle.gl_rule.specs.View.{View, Held, Shelf, shelf, without}

-- the row of y is held, and was marked for the end of the attempt in the block at p
pub record HeldRow (s : Shelf) (v : View) (p y : ℕ) : Type 0 where
  pub one : Held
  pub row : Row
  pub held : Contains v.held one
  pub object : one.object ≡ suc y
  pub taken : one.taken ≡ slot.Row row
  pub drew : one.drew ≡ Some (draw s.thread p Open)

-- the commit of tx, whose numbers were drawn in the block at p, over the events below m; question is what is asked of each row
pub record MayCommit (setting : Setting) (s : Shelf) (v : View) (tx : Tx) (p m : ℕ) (question : ℕ → Question) : Type 0 where
  pub block : last_position s.marked ≡ Some p
  pub goes_on : IsNotOver s.marked
  -- the pass has made no event at or behind that tail
  pub below : AreBelow m s
  pub rows : (y : ℕ) → is_in y (variables_of tx) ≡ true → HeldRow s v p y
  -- the tail m was seen since each of them was taken
  pub saw : (y : ℕ) (b : is_in y (variables_of tx) ≡ true) → Contains (rows y b).one.tails m
  pub each : (g : Held) (y : ℕ) → Contains v.held g → g.object ≡ suc y → is_in y (variables_of tx) ≡ true → g.drew
      ≡ Some (draw s.thread p Open)
  -- the numbers that wait are those of the transaction
  pub looks : (y k : ℕ) (value : ℤ) → Contains v.drawn (record { var = y; nth = k; look = Some value }) ↔ Contains tx.looks
      (record { var = y; value = value; nth = k })
  pub owns : (y k : ℕ) → Contains v.drawn (record { var = y; nth = k; look = None }) ↔ Contains tx.numbers (record { var = y; nth = k })
  pub once : (y k i : ℕ) → Contains tx.numbers (record { var = y; nth = k }) → Contains tx.numbers (record { var = y; nth = i }) → k ≡ i
  pub names : NumbersName tx (variables_of tx)
  -- each look has its row's word
  pub words : (y : ℕ) (b : is_in y (variables_of tx) ≡ true) → LooksHave tx y (rows y b).row.value
  -- no conflicting Info of these rows fails its test over a fitting list of m events
  pub asks : (y : ℕ) → ((question y).thread ≡ s.thread) × ((question y).commit ≡ Some (variables_of tx))
      × ((n : ℕ) → Writes (Commit n tx) y → (question y).write ≡ true)
  pub judged : (l : List Stamp) → IsFitting setting s m v.known l
      → ((y : ℕ) (b : is_in y (variables_of tx) ≡ true) → InfosStand setting l (rows y b).row)
      → (y : ℕ) (b : is_in y (variables_of tx) ≡ true) → SomeFails l (rows y b).row (question y) → ⊥

-- what is asked of any attempt that is dropped: zs are the variables that were marked for its end
pub record MayDrop (s : Shelf) (v : View) (tx : Tx) (why : Why) (zs : List ℕ) (p : ℕ) : Type 0 where
  pub block : last_position s.marked ≡ Some p
  pub goes_on : IsNotOver s.marked
  pub rows : (y : ℕ) → is_in y zs ≡ true → HeldRow s v p y
  pub each : (g : Held) (y : ℕ) → Contains v.held g → g.object ≡ suc y → is_in y zs ≡ true → g.drew ≡ Some (draw s.thread p Open)
  pub looks : (y k : ℕ) (value : ℤ) → Contains v.drawn (record { var = y; nth = k; look = Some value }) ↔ Contains tx.looks
      (record { var = y; value = value; nth = k })
  pub owns : (y k : ℕ) → Contains v.drawn (record { var = y; nth = k; look = None }) ↔ Contains tx.numbers (record { var = y; nth = k })
  pub once : (y k i : ℕ) → Contains tx.numbers (record { var = y; nth = k }) → Contains tx.numbers (record { var = y; nth = i }) → k ≡ i
  pub names : NumbersName tx zs
  pub formed : EntryForm s.thread (Abort tx why)

-- the row of the look's variable is held, and has its word
pub record IsUnchanged (v : View) (l : Look) : Type 0 where
  pub one : Held
  pub row : Row
  pub held : Contains v.held one
  pub object : one.object ≡ suc l.var
  pub taken : one.taken ≡ slot.Row row
  pub word : l.value ≡ row.value

-- and of one whose variable was changed
pub record MayChange (s : Shelf) (v : View) (tx : Tx) (var : ℕ) (read found : ℤ) (p : ℕ) : Type 0 where
  pub drop : MayDrop s v tx (Changed var read found) (var ∷ []) p
  pub word : (b : is_in var (var ∷ []) ≡ true) → found ≡ (drop.rows var b).row.value
  -- it is the least such variable
  pub least : (l : Look) → Contains tx.looks l → l.var < var → IsUnchanged v l

-- and of one that is refused for a race on var
pub record MayRefuse (setting : Setting) (s : Shelf) (v : View) (tx : Tx) (var p m : ℕ) (question : ℕ → Question) : Type 0 where
  pub drop : MayDrop s v tx (Raised var) (variables_of tx) p
  pub below : AreBelow m s
  pub saw : (y : ℕ) (b : is_in y (variables_of tx) ≡ true) → Contains (drop.rows y b).one.tails m
  pub asks : (y : ℕ) → ((question y).thread ≡ s.thread) × ((question y).commit ≡ Some (variables_of tx))
      × (((question y).write ≡ true) ↔ Writes (Abort tx (Raised var)) y)
  pub touches : is_in var (variables_of tx) ≡ true
  -- each look has its row's word
  pub words : (y : ℕ) (b : is_in y (variables_of tx) ≡ true) → LooksHave tx y (drop.rows y b).row.value
  -- over each fitting list of m events some conflicting Info of var fails its test, and none of a lower variable
  pub judged : (l : List Stamp) → IsFitting setting s m v.known l
      → ((y : ℕ) (b : is_in y (variables_of tx) ≡ true) → InfosStand setting l (drop.rows y b).row)
      → (b : is_in var (variables_of tx) ≡ true) → SomeFails l (drop.rows var b).row (question var)
  pub least : (l : List Stamp) → IsFitting setting s m v.known l
      → ((y : ℕ) (b : is_in y (variables_of tx) ≡ true) → InfosStand setting l (drop.rows y b).row)
      → (y : ℕ) (b : is_in y (variables_of tx) ≡ true) → y < var → SomeFails l (drop.rows y b).row (question y) → ⊥

-- what was drawn on a held object, after the commit d on ys
abbrev pub is_object : ℕ → List ℕ → Bool
is_object zero ys = false
is_object (suc y) ys = is_in y ys

abbrev pub drew_commit : List ℕ → Draw → Held → Option Draw
drew_commit ys d g = if is_object g.object ys then Some d else g.drew

-- the held objects after such a change of draws
abbrev pub with_drew : List ℕ → Draw → Held → Held
with_drew ys d g = record g { drew = drew_commit ys d g }

-- thread t, which has stored l, stores an attempt that was dropped
abbrev pub dropped : View → ℕ → List Entry → Entry → List ℕ → Draw → View
dropped v t l e zs d = record v { shelves = shelf t (l ++ e ∷ []) ∷ []; drawn = []; held = map (with_drew zs d) v.held }

-- a cached write is owed from then on
abbrev pub owed_after : Bool → ℕ → ℤ → List (ℕ × ℤ) → List (ℕ × ℤ)
owed_after true x value owed = with_owed x value owed
owed_after false x value owed = owed

-- thread t, which has stored l, stores a cached access: the word is owed where it writes
abbrev pub cached_in : View → ℕ → List Entry → ℕ → ℕ → Bool → ℤ → View
cached_in v t l x k write value = record v {
  shelves = shelf t (l ++ Plain x k true write value false ∷ [])
      ∷ [];
  owed = owed_after write x value v.owed;
}

-- thread t, which has stored l, stores an entry that is no event and draws no number
abbrev pub stored : View → ℕ → List Entry → Entry → View
stored v t l e = record v { shelves = shelf t (l ++ e ∷ []) ∷ [] }

-- what is asked of a value that is written back: the row of x is held as it was taken, and the value is owed
pub record MayPay (v : View) (h : Held) (x : ℕ) (taken : Row) (value : ℤ) : Type 0 where
  pub held : Contains v.held h
  pub object : h.object ≡ suc x
  pub is : h.taken ≡ slot.Row taken
  pub first : h.drew ≡ None
  pub owes : Contains v.owed (x, value)

-- the row has the value then, and x is owed no more
abbrev pub paid : View → Held → ℕ → Slot → View
paid v h x y = record v { held = record h { taken = y } ∷ without h.object v.held; owed = filter (λ (o : ℕ × ℤ). not (o.0 == x)) v.owed }
