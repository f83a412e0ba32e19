-- Private words beside a pass: what they have is what the pass may repeat, and what it owes.
use Rattle.std.specs.Prelude.{◌≡◌, ◌↔◌, ℕ, ℤ, ◌<◌, if◌then◌else◌, is_some, ◌++◌, ◌∷◌, [], Bool, true, false, List, length, Contains, Option, Some, None}
use Rattle.gl_model.specs.Entries.{Entry, Plain}
use Rattle.gl_model.specs.declared.limits.TheConstants.{VARIABLES}
use Rattle.gl_draws.specs.Cached.{IsLastValue}
use Rattle.gl_cache.specs.Words.{Word, Words, IsChanged, no_words, word_at}
use Rattle.gl_rule.specs.Commits.{owed_after}
use Rattle.gl_table.specs.PassView.{Own, PassView}
use Rattle.gl_table.specs.TableView.{TableView}
use Rattle.gl_draws.specs.Ties.{counted}
use Rattle.gl_rule.specs.Lives.{Running, life_of}
use Rattle.gl_rows.specs.declared.accessing.Seen.{Seen}
use Rattle.gl_rows.specs.Accessing.{HasEntry, is_raised, value_told}
use Rattle.gl_table.specs.RightOf.{right_of}
use Rattle.gl_txn.specs.Attempts.{Attempting}
use Rattle.gl_rule.specs.Bounded.{most_entries}

-- the last performed access of the variable has this value
abbrev pub IsLast : List Entry → ℕ → ℤ → Type 0
IsLast es x value = IsLastValue es (length es) x value

-- a variable that may be repeated has a word, with the value of its last performed access
pub record HasWord (words : Words) (mine : List Entry) (x : ℕ) : Type 0 where
  pub word : Word
  pub there : word_at words x ≡ Some word
  pub last : IsLast mine x word.value

-- what is owed may be repeated as a write
pub record MayWrite (mine : List Entry) (x : ℕ) : Type 0 where
  pub nth : ℕ
  pub right : right_of mine x ≡ Some (nth, true)

-- what is owed is what was changed, and what may be repeated has a word
pub record Owns (words : Words) (own : Own) : Type 0 where
  pub long : length words ≡ VARIABLES
  pub owed : (x : ℕ) (a : ℤ) → Contains own.owed (x, a) ↔ IsChanged words x a
  pub kept : (x : ℕ) (r : ℕ × Bool) → right_of own.mine x ≡ Some r → HasWord words own.mine x
  pub writes : (x : ℕ) (a : ℤ) → Contains own.owed (x, a) → MayWrite own.mine x

-- the number of the access that may be repeated by this right, where there is one
abbrev pub repeat_number : Option (ℕ × Bool) → Option ℤ → Option ℕ
repeat_number None write = None
repeat_number (Some r) None = Some r.0
repeat_number (Some r) (Some a) = if r.1 then Some r.0 else None

-- a repeat more, which owes its word where it writes
abbrev pub repeated : ℕ → ℕ → Bool → ℤ → Own → Own
repeated x nth write value o = record o { mine = o.mine ++ Plain x nth true write value false ∷ []; owed = owed_after write x value o.owed }

-- a plain access: a repeat of the one with this number, which is never raised; else one by the table
abbrev pub PlainBy : Option ℕ → ℕ → Option ℤ → Seen → Own → Own → Type 0
PlainBy (Some nth) x write s own new = (new ≡ repeated x nth (is_some write) (value_told write s) own) × (is_raised s ≡ false)
PlainBy None x write s own new = HasEntry x write own s new

-- the pass is of this table, holds nothing, waits for no entry, has room for one, and its thread runs
pub record MayMark (z : TableView) (p : PassView) : Type 0 where
  pub table : p.own.table ≡ z.id
  pub held : p.own.held ≡ []
  pub drawn : p.own.drawn ≡ []
  pub spare : 0 < p.spare
  pub few : counted p.own.mine < most_entries
  pub runs : life_of p.own.mine ≡ Running

-- private words beside a thread: inside an attempt there are none, and nothing is owed; the rights that the pass has then end with the
-- attempt
abbrev pub AreKept : Option Attempting → Words → Own → Type 0
AreKept None words own = Owns words own
AreKept (Some a) words own = (words ≡ no_words) × (own.owed ≡ [])
