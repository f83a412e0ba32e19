-- The rules of form, place by place: what they ask of one place of a list, and where a record fails them.
use Rattle.std.specs.Prelude.{◌≡◌, ◌≢◌, ℕ, ℤ, ◌+◌, ◌<◌, true, false, Bool, List, [], length, Some, ◌↔◌}
use Rattle.gl_model.specs.Entries.{Entry, Plain, Trim}
use Rattle.gl_model.specs.Form.{Draws, EntryForm, HasRight, IsBegin, IsEnd, IsOver, IsTrim, Form}
use Rattle.gl_model.specs.Records.{At, Lists, Place, position_of}
use Rattle.gl_places.specs.Places.{Before, IsFirstBy}

-- the entry is an event at this position
abbrev pub HasPosition : Entry → ℕ → Type 0
HasPosition e p = position_of e ≡ Some p

-- the entry is a Trim with this low
abbrev pub HasLow : Entry → ℕ → Type 0
HasLow e low = e ≡ Trim low

-- the entry drew this number on x
abbrev pub DrawsOn : ℕ → Entry → ℕ → Type 0
DrawsOn x e k = Draws e x k

-- a number of the entry at place i is above those that the entries before it have
abbrev pub RisesAt : (Entry → ℕ → Type 0) → List Entry → ℕ → Type 0
RisesAt Has es i = (j k m : ℕ) (e f : Entry) → At es j e → At es i f → j < i → Has e k → Has f m → k < m

-- what the rules of form ask of place i of the list of thread t, in view of the entries before it. The place after the last
-- entry is one too: it is where an Over is missing.
pub record KeepsForm (t : ℕ) (es : List Entry) (i : ℕ) : Type 0 where
  -- thread 0 is there
  pub main : t ≡ 0 → i ≡ 0 → es ≢ []
  -- values, raised entries, and the numbers of commits and aborts: what each entry has to be by itself
  pub well_formed : (e : Entry) → At es i e → EntryForm t e
  -- the first entry that is no Trim is Begin
  pub begins : (e : Entry) → At es i e → (IsTrim e → ⊥) → ((j : ℕ) (f : Entry) → At es j f → j < i → IsTrim f) → IsBegin e
  pub positions_rise : RisesAt HasPosition es i
  pub numbers_rise : (x : ℕ) → RisesAt (DrawsOn x) es i
  pub lows_rise : RisesAt HasLow es i
  -- after End comes only Over, Over comes only there, and nothing comes after it
  pub over_after_end : (j : ℕ) (e f : Entry) → i ≡ j + 1 → At es j e → At es i f → IsEnd e ↔ IsOver f
  pub nothing_after : (j : ℕ) (e f : Entry) → At es j e → At es i f → j < i → IsOver e → ⊥
  -- each list ends with Over
  pub ends : es ≢ [] → i ≡ length es → (j : ℕ) × ((e : Entry) × At es j e × IsOver e)
  -- a cached entry, which is not raised, has the right to it
  pub cached : (x k : ℕ) (write : Bool) (value : ℤ) → At es i (Plain x k true write value false) → HasRight es i x k write

-- a rule is not kept there
abbrev pub FormFails : ℕ → List Entry → ℕ → Type 0
FormFails t es i = KeepsForm t es i → ⊥

-- a rule is not kept at this place of the record
abbrev pub FormFailsAt : Lists → Place → Type 0
FormFailsAt R c = FormFails c.thread (R c.thread) c.index

-- a record is of the form exactly where it fails it nowhere
abbrev pub FormedExactly : Type 0
FormedExactly = (R : Lists) → Form R ↔ ((c : Place) → FormFailsAt R c → ⊥)

-- a record has at most one first place where it fails the form
abbrev pub HasOneFirst : Type 0
HasOneFirst = (R : Lists) (c d : Place) → IsFirstBy Before (FormFailsAt R) c → IsFirstBy Before (FormFailsAt R) d → c ≡ d
