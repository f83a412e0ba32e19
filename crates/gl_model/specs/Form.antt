-- Well-formed records: what each list has to be by itself; the numbers and the positions of all together; and that the events are steps
-- of the machine. All this is this project's own.
use Rattle.std.specs.Prelude.{◌≡◌, ◌≢◌, ℕ, ℤ, pos, ◌+◌, ◌<◌, Bool, true, false, List, [], ◌∷◌, length, map, Contains, Some, None, ◌⊎◌, ◌↔◌}
use Rattle.gl_model.specs.declared.event.Act.{Act}
use Rattle.gl_model.specs.declared.event.Act.TheVariants.{Begin, End, Acq, Rel, VRead, VWrite, Fork, Join, Alloc, Print, Input, Fail}
use Rattle.gl_model.specs.declared.event.Stamp.{Stamp}
use Rattle.gl_model.specs.Entries.{Entry}
use Rattle.gl_model.specs.Entries.{Sync, Commit, Plain, Abort, Trim, Over}
use Rattle.gl_model.specs.declared.tx.Tx.{Tx}
use Rattle.gl_model.specs.declared.tx.Why.TheVariants.{Changed, Raised}
use Rattle.gl_model.specs.Machine.{Setting, State, Step, start, NeverForked, Ended}
use Rattle.gl_model.specs.Records.{Lists, Place, EntryAt, IsEventAt, IsEventList, position_of, variables_of}
pub use Rattle.gl_model.specs.Records.{At}

-- a look of the entry drew this number on x: the numbers of a variable are drawn by plain accesses, by looks, and by the ends of attempts
abbrev pub LookDraws : Entry → ℕ → ℕ → Type 0
LookDraws (Commit at tx) x k = (value : ℤ) × Contains tx.looks (record { var = x; value = value; nth = k })
LookDraws (Abort tx why) x k = (value : ℤ) × Contains tx.looks (record { var = x; value = value; nth = k })
LookDraws (Sync at act value) x k = ⊥
LookDraws (Plain var nth cached write value raised) x k = ⊥
LookDraws (Trim low) x k = ⊥
LookDraws (Over ending) x k = ⊥

-- the entry drew this number on x for itself
abbrev pub NumberDraws : Entry → ℕ → ℕ → Type 0
NumberDraws (Plain var nth cached write value raised) x k = (cached ≡ false) × (var ≡ x) × (nth ≡ k)
NumberDraws (Commit at tx) x k = Contains tx.numbers (record { var = x; nth = k })
NumberDraws (Abort tx why) x k = Contains tx.numbers (record { var = x; nth = k })
NumberDraws (Sync at act value) x k = ⊥
NumberDraws (Trim low) x k = ⊥
NumberDraws (Over ending) x k = ⊥

-- the entry drew this number on x
abbrev pub Draws : Entry → ℕ → ℕ → Type 0
Draws e x k = LookDraws e x k ⊎ NumberDraws e x k

-- an act of thread t whose value is always 0: it hands nothing over and reads nothing, or is a refusal of nothing that was named
abbrev pub HasNoValue : ℕ → Act → Type 0
HasNoValue t (Begin f) = t ≡ 0
HasNoValue t End = Unit {0}
HasNoValue t (Acq o) = Unit {0}
HasNoValue t (Rel o) = Unit {0}
HasNoValue t (VRead v) = ⊥
HasNoValue t (VWrite v) = ⊥
HasNoValue t (Fork u f) = ⊥
HasNoValue t (Join u) = Unit {0}
HasNoValue t (Alloc c) = ⊥
HasNoValue t Print = ⊥
HasNoValue t Input = ⊥
HasNoValue t (Fail code) = (code ≢ 5) × (code ≢ 6) × (code ≢ 11)

-- its own numbers stand after its looks', and name just these variables
pub record NumbersName (tx : Tx) (xs : List ℕ) : Type 0 where
  pub variables : map (λ n. n.var) tx.numbers ≡ xs
  pub after_looks :
      (x k m : ℕ) (value : ℤ) → Contains tx.looks (record { var = x; value = value; nth = k }) →
      Contains tx.numbers (record { var = x; nth = m }) → k < m

-- what each entry of thread t has to be by itself: a value where its act has one; a raised access is no repeat, and a raised read has the
-- value 0; the numbers of a commit and of a refused one name just its variables, those of a changed attempt the variable that was
-- changed, which it looked at
abbrev pub EntryForm : ℕ → Entry → Type 0
EntryForm t (Sync at act value) = HasNoValue t act → value ≡ pos 0
EntryForm t (Commit at tx) = NumbersName tx (variables_of tx)
EntryForm t (Plain var nth cached write value true) = (cached ≡ false) × (write ≡ false → value ≡ pos 0)
EntryForm t (Plain var nth cached write value false) = Unit {0}
EntryForm t (Abort tx (Raised var)) = NumbersName tx (variables_of tx)
EntryForm t (Abort tx (Changed var read found)) =
    NumbersName tx (var ∷ []) × ((nth : ℕ) × Contains tx.looks (record { var = var; value = read; nth = nth })) × (read ≢ found)
EntryForm t (Trim low) = Unit {0}
EntryForm t (Over ending) = Unit {0}

-- a note of how far the list was trimmed
abbrev pub IsTrim : Entry → Type 0
IsTrim (Trim low) = Unit {0}
IsTrim _ = ⊥

-- the first event of a thread
abbrev pub IsBegin : Entry → Type 0
IsBegin (Sync at (Begin func) value) = Unit {0}
IsBegin _ = ⊥

-- the last event of a thread
abbrev pub IsEnd : Entry → Type 0
IsEnd (Sync at End value) = Unit {0}
IsEnd _ = ⊥

-- the end of a list
abbrev pub IsOver : Entry → Type 0
IsOver (Over ending) = Unit {0}
IsOver _ = ⊥

-- a numbered performed entry on x, with its number and whether it writes
abbrev pub GivesRight : Entry → ℕ → ℕ → Bool → Type 0
GivesRight (Plain var nth cached write value raised) x k w =
    (cached ≡ false) × (raised ≡ false) × (var ≡ x) × (nth ≡ k) × (write ≡ w)
GivesRight (Sync at act value) x k w = ⊥
GivesRight (Commit at tx) x k w = ⊥
GivesRight (Abort tx why) x k w = ⊥
GivesRight (Trim low) x k w = ⊥
GivesRight (Over ending) x k w = ⊥

-- in the block of the entry at i, before it, the latest numbered performed entry on x has this number
pub record HasRight (es : List Entry) (i x k : ℕ) (write : Bool) : Type 0 where
  pub index : ℕ
  pub entry : Entry
  pub there : At es index entry
  pub before : index < i
  pub by_write : Bool
  pub gives : GivesRight entry x k by_write
  pub enough : write ≡ true → by_write ≡ true
  pub no_event : (j : ℕ) (e : Entry) → At es j e → index < j → j < i → position_of e ≡ None
  pub latest : (j m : ℕ) (e : Entry) (w : Bool) → At es j e → index < j → j < i → GivesRight e x m w → ⊥

-- what holds of the list of thread t while it grows
pub record ListForm (t : ℕ) (es : List Entry) : Type 0 where
  pub well_formed : (i : ℕ) (e : Entry) → At es i e → EntryForm t e
  -- the first entry that is no Trim is Begin
  pub begins : (i : ℕ) (e : Entry) → At es i e → (IsTrim e → ⊥) → ((j : ℕ) (f : Entry) → At es j f → j < i → IsTrim f) → IsBegin e
  pub positions_rise : (i j p q : ℕ) (e f : Entry) → At es i e → At es j f → i < j → position_of e ≡ Some p → position_of f ≡ Some q → p < q
  pub numbers_rise : (i j x k m : ℕ) (e f : Entry) → At es i e → At es j f → i < j → Draws e x k → Draws f x m → k < m
  pub lows_rise : (i j low high : ℕ) → At es i (Trim low) → At es j (Trim high) → i < j → low < high
  pub over_after_end : (i : ℕ) (e f : Entry) → At es i e → At es (i + 1) f → IsEnd e ↔ IsOver f
  pub nothing_after : (i : ℕ) (e : Entry) → At es i e → IsOver e → length es ≡ i + 1
  pub cached : (i x k : ℕ) (write : Bool) (value : ℤ) → At es i (Plain x k true write value false) → HasRight es i x k write

-- a whole record: thread 0 is there, and each list ends with Over
pub record Form (R : Lists) : Type 0 where
  pub main : R 0 ≢ []
  pub formed : (t : ℕ) → ListForm t (R t)
  pub ends : (t : ℕ) → R t ≢ [] → (i : ℕ) × ((e : Entry) × At (R t) i e × IsOver e)

-- on x the numbers below m are drawn, each once
pub record NumberedBelow (R : Lists) (x m : ℕ) : Type 0 where
  pub below : (c : Place) (e : Entry) (k : ℕ) → EntryAt R c e → Draws e x k → k < m
  pub drawn : (k : ℕ) → k < m → (c : Place) × ((e : Entry) × EntryAt R c e × Draws e x k)
  pub once : (c d : Place) (e f : Entry) (k : ℕ) → EntryAt R c e → EntryAt R d f → Draws e x k → Draws f x k → c ≡ d
  -- and not by a look and by its transaction's end
  pub apart : (c : Place) (e : Entry) (k : ℕ) → EntryAt R c e → LookDraws e x k → NumberDraws e x k → ⊥

-- on each variable
abbrev pub Numbered : Lists → Type 0
Numbered R = (x : ℕ) → (m : ℕ) × NumberedBelow R x m

-- listed: with n events their positions are the numbers below n, each once
abbrev pub Listed : Lists → Type 0
Listed R = (h : List Stamp) × IsEventList h R

-- the value that an event's entry carries
abbrev pub value_of : Entry → ℤ
value_of (Sync at act value) = value
value_of (Commit at tx) = pos 0
value_of (Plain var nth cached write value raised) = pos 0
value_of (Abort tx why) = pos 0
value_of (Trim low) = pos 0
value_of (Over ending) = pos 0

-- the events of the record, in the order of their positions, are steps of the machine; each forked thread has a list; and at the end each
-- thread that was forked, and thread 0, has ended
pub record IsMachineRun (setting : Setting) (R : Lists) (h : List Stamp) : Type 0 where
  pub at : ℕ → State
  pub first : at 0 ≡ start setting
  pub steps : (c : Place) (p : ℕ) (s : Stamp) → (e : IsEventAt R c p s) → Step setting (at p) s (value_of e.entry) (at (p + 1))
  pub lists : (c : Place) (p u f : ℕ) (value : ℤ) → EntryAt R c (Sync p (Fork u f) value) → R u ≢ []
  pub ended : (t : ℕ) → ((at (length h)).threads t ≡ NeverForked) ⊎ ((at (length h)).threads t ≡ Ended)

-- an event or an abort: after it no right is left
abbrev pub EndsRights : Entry → Type 0
EndsRights (Sync at act value) = Unit {0}
EndsRights (Commit at tx) = Unit {0}
EndsRights (Abort tx why) = Unit {0}
EndsRights (Plain var nth cached write value raised) = ⊥
EndsRights (Trim low) = ⊥
EndsRights (Over ending) = ⊥

-- sparing: a plain entry is cached exactly where an earlier one of its block, with no event and no abort between, gives the right to it
abbrev pub Sparing : Lists → Type 0
Sparing R =
    (t i x k : ℕ) (cached write raised : Bool) (value : ℤ) → At (R t) i (Plain x k cached write value raised) →
    (cached ≡ true) ↔
    ((j : ℕ) × (j < i) × ((e : Entry) × At (R t) j e × ((m : ℕ) × ((w : Bool) × GivesRight e x m w × (write ≡ true → w ≡ true)))) ×
    ((l : ℕ) (f : Entry) → At (R t) l f → j < l → l < i → EndsRights f → ⊥))
