-- The clause of words: what a read and a look have to read, and the first place where one reads otherwise.
use Rattle.std.specs.Prelude.{◌≡◌, ℕ, ℤ, pos, false, List, Contains, ◌⊎◌, ◌↔◌}
use Rattle.gl_model.specs.declared.event.Stamp.{Stamp}
use Rattle.gl_model.specs.declared.tx.Look.{Look}
use Rattle.gl_model.specs.Entries.{Entry, Sync, Commit, Plain, Abort, Trim, Over}
use Rattle.gl_model.specs.Flat.{InFlatOrder, IsFlat, Legal, ReadsRight, WritesValue}
use Rattle.gl_model.specs.Form.{Form, IsMachineRun, Listed}
use Rattle.gl_model.specs.Kept.{IsRecord}
use Rattle.gl_model.specs.Lists.{lists_of}
use Rattle.gl_model.specs.Machine.{Setting}
use Rattle.gl_model.specs.Records.{EntryAt, IsEventList, Lists, Place}
use Rattle.gl_places.specs.Places.{Before, IsFirstBy}

-- a performed write of v to x stands there
abbrev pub WritesAt : Lists → Place → ℕ → ℤ → Type 0
WritesAt R c x v = (e : Entry) × EntryAt R c e × WritesValue e x v

-- v is what the last performed write of x at one of these places, by the flat order, wrote, or 0 where there is none
abbrev pub IsLastWord : Lists → (Place → Type 0) → ℕ → ℤ → Type 0
IsLastWord R Among x v =
    ((d : Place) × Among d × WritesAt R d x v × ((g : Place) (u : ℤ) → Among g → WritesAt R g x u → InFlatOrder R d g → ⊥)) ⊎
    ((v ≡ pos 0) × ((g : Place) (u : ℤ) → Among g → WritesAt R g x u → ⊥))

-- v is the word of x where the record is laid out up to c
abbrev pub IsWordAt : Lists → Place → ℕ → ℤ → Type 0
IsWordAt R c x v = IsLastWord R (λ d. InFlatOrder R d c) x v

-- the entry has the value v for the word of x: it is a performed read, or a commit with a look
abbrev pub ReadsValue : Entry → ℕ → ℤ → Type 0
ReadsValue (Plain var nth cached write value raised) x v = (raised ≡ false) × (write ≡ false) × (var ≡ x) × (value ≡ v)
ReadsValue (Commit at tx) x v = (l : Look) × Contains tx.looks l × (l.var ≡ x) × (l.value ≡ v)
ReadsValue (Sync at act value) x v = ⊥
ReadsValue (Abort tx why) x v = ⊥
ReadsValue (Trim low) x v = ⊥
ReadsValue (Over ending) x v = ⊥

-- the entry there reads a value that is not the word where it is laid out
abbrev pub FlatFailsAt : Lists → Place → Type 0
FlatFailsAt R c = (e : Entry) × EntryAt R c e × ((x : ℕ) × ((v : ℤ) × ReadsValue e x v × (IsWordAt R c x v → ⊥)))

-- a look of the entry there, or what a changed attempt found, is not the word below its own number
abbrev pub LookFailsAt : Lists → Place → Type 0
LookFailsAt R c = (e : Entry) × EntryAt R c e × (ReadsRight R e → ⊥)

-- each performed read, and each look of a commit, has the word where it is laid out
abbrev pub FlatHolds : Lists → Type 0
FlatHolds R = (c : Place) (e : Entry) → EntryAt R c e → (x : ℕ) (v : ℤ) → ReadsValue e x v → IsWordAt R c x v

-- each look, and what each changed attempt found, is the word below its own number
abbrev pub LooksHold : Lists → Type 0
LooksHold R = (c : Place) (e : Entry) → EntryAt R c e → ReadsRight R e

-- both
pub record WordsHold (R : Lists) : Type 0 where
  pub flat : FlatHolds R
  pub looks : LooksHold R

-- the first place of the flat history where a read is wrong
abbrev pub IsFirstInFlatOrder : Lists → Place → Type 0
IsFirstInFlatOrder R c = IsFirstBy (InFlatOrder R) (FlatFailsAt R) c

-- the first place where a word is wrong: first along the flat history, then the looks and what was found, by thread and place
abbrev pub WordFailsFirst : Lists → Place → Type 0
WordFailsFirst R c = IsFirstInFlatOrder R c ⊎ (((d : Place) → FlatFailsAt R d → ⊥) × IsFirstBy Before (LookFailsAt R) c)

-- the laws of this clause, over well-formed records: the flat history is there, and there is one
abbrev pub FlatHistoryIsOne : Type 0
FlatHistoryIsOne =
    (R : Lists) (h : List Stamp) → IsEventList h R → Form R → ((cs : List Place) × IsFlat R cs) ×
    ((cs ds : List Place) → IsFlat R cs → IsFlat R ds → cs ≡ ds)

-- where the events are a run of the machine, the record is legal exactly where its words hold
abbrev pub LegalWhereWordsHold : Type 0
LegalWhereWordsHold =
    (made : List (ℕ × List Entry)) → IsRecord made → Form (lists_of made) → (setting : Setting) (h : List Stamp) →
    IsEventList h (lists_of made) →
    IsMachineRun setting (lists_of made) h → Legal setting (lists_of made) ↔ WordsHold (lists_of made)

-- there is one first place where a word is wrong, and none where the words hold
pub record FirstWordIsOne : Type 0 where
  pub one_place : (R : Lists) → Form R → Listed R → (c d : Place) → WordFailsFirst R c → WordFailsFirst R d → c ≡ d
  pub none : (R : Lists) (c : Place) → WordFailsFirst R c → WordsHold R → ⊥
