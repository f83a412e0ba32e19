-- The walk along the flat history: block by block, and within a block from its event on.
use Rattle.std.specs.Prelude.{◌≡◌, ◌≢◌, ℕ, ℤ, pos, ◌+◌, ◌<◌, ◌≤◌, true, false, List, slice_get, slice_index_or, ◌⊎◌, Bool, MatchOption, Option, Some}
use Rattle.gl_model.specs.declared.event.Stamp.{Stamp}
use Rattle.gl_model.specs.declared.limits.TheConstants.{VARIABLES}
use Rattle.gl_model.specs.declared.tx.Look.{Look}
use Rattle.gl_model.specs.Entries.{Entry, Sync, Commit, Plain, Abort, Trim, Over}
use Rattle.gl_model.specs.Flat.{stored}
use Rattle.gl_model.specs.Form.{At, Form, Listed}
use Rattle.gl_model.specs.Kept.{IsEntryKept}
use Rattle.gl_model.specs.Machine.{with_at}
use Rattle.gl_model.specs.Records.{EntryAt, IsBlockOf, IsEventAt, Lists, Place}
use Rattle.gl_flat.specs.Words.{IsFirstInFlatOrder, IsLastWord, IsWordAt, ReadsValue}

-- the place stands in a block before p, or in p before the place i of its list
abbrev pub IsWalked : Lists → ℕ → ℕ → Place → Type 0
IsWalked R p i d = (q : ℕ) × IsBlockOf R d q × ((q < p) ⊎ ((q ≡ p) × (d.index < i)))

-- the words after an entry
abbrev pub words_past : (ℕ → ℤ) → Entry → ℕ → ℤ
words_past words (Plain var nth cached true value false) = with_at words var value
words_past words (Plain var nth cached true value true) = words
words_past words (Plain var nth cached false value raised) = words
words_past words (Commit at tx) = stored words tx.writes
words_past words (Sync at act value) = words
words_past words (Abort tx why) = words
words_past words (Trim low) = words
words_past words (Over ending) = words

-- each read of the entry has its word
abbrev pub AgreesWith : (ℕ → ℤ) → Entry → Type 0
AgreesWith words e = (x : ℕ) (v : ℤ) → ReadsValue e x v → v ≡ words x

-- some read of the entry has another value than its word
abbrev pub DiffersFrom : (ℕ → ℤ) → Entry → Type 0
DiffersFrom words e = (x : ℕ) × ((v : ℤ) × ReadsValue e x v × (v ≢ words x))

-- some look has another value than its word
abbrev pub LooksDiffer : (ℕ → ℤ) → List Look → Type 0
LooksDiffer words looks = (k : ℕ) × ((l : Look) × (slice_get looks k ≡ Some l) × (l.value ≢ words l.var))

-- is the entry an event?
abbrev pub is_event : Entry → Bool
is_event (Sync at act value) = true
is_event (Commit at tx) = true
is_event (Plain var nth cached write value raised) = false
is_event (Abort tx why) = false
is_event (Trim low) = false
is_event (Over ending) = false

-- a table of the words, as a function
abbrev pub word_in : List ℤ → ℕ → ℤ
word_in table x = slice_index_or table x (pos 0)

-- the walk has come to place i of block p: the words are those that were written so far, and each read so far had its word
pub record HasWalked (R : Lists) (p i : ℕ) (table : List ℤ) : Type 0 where
  pub words : (x : ℕ) → x < VARIABLES → IsLastWord R (IsWalked R p i) x (word_in table x)
  pub right : (d : Place) → IsWalked R p i d → (e : Entry) → EntryAt R d e → (x : ℕ) (v : ℤ) → ReadsValue e x v → IsWordAt R d x v

-- a well-formed record with its events listed, whose entries keep to the ids that there are
pub record IsWalkable (R : Lists) : Type 0 where
  pub form : Form R
  pub listed : Listed R
  pub kept : (c : Place) (e : Entry) → EntryAt R c e → IsEntryKept e

-- the walk has passed block p, whose event is at place i of a list: it goes on to the next block, or has come to the first wrong read
abbrev pub PassesBlock : List Entry → ℕ → List ℤ → List ℤ → Option ℕ → Type 0
PassesBlock es i before after answer =
    (R : Lists) → IsWalkable R → (t p : ℕ) (s : Stamp) → R t ≡ es → IsEventAt R (record { thread = t; index = i }) p s →
    HasWalked R p 0 before →
    MatchOption answer (HasWalked R (p + 1) 0 after) (λ k. IsFirstInFlatOrder R (record { thread = t; index = k }))

-- the walk is at place k of the list, in the block of the event at place i
pub record ComesTo (es : List Entry) (i k : ℕ) (before after : List ℤ) : Type 0 where
  pub on : i ≤ k
  pub no_event : (j : ℕ) (e : Entry) → i < j → j < k → At es j e → is_event e ≡ false
  pub walked :
      (R : Lists) → IsWalkable R → (t p : ℕ) (s : Stamp) → R t ≡ es → IsEventAt R (record { thread = t; index = i }) p s →
      HasWalked R p 0 before →
      HasWalked R p k after
