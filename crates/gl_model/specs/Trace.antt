-- The record of a trace, line by line, and the verdicts: what is said of each line. A trace has no values and no functions: all are 0.
use Rattle.std.specs.Prelude.{◌≡◌, ℕ, zero, suc, pos, ◌+◌, ◌-◌, ◌<◌, ◌==◌, if◌then◌else◌, Bool, true, false, List, [], ◌∷◌, ◌++◌, length, map, take, slice_get, Some}
use Rattle.gl_model.specs.declared.event.Act.{Act}
use Rattle.gl_model.specs.declared.event.Act.TheVariants.{Begin, End, Acq, Rel, VRead, VWrite, Fork, Join, Alloc, Print, Input, Fail}
use Rattle.gl_model.specs.Entries.{Entry}
use Rattle.gl_model.specs.Entries.{Sync, Commit, Plain, Abort, Over}
use Rattle.gl_model.specs.declared.record.Ending.TheVariants.{Halt}
use Rattle.gl_model.specs.declared.limits.TheConstants.{THREADS}
use Rattle.gl_model.specs.declared.row.Item.{Item}
use Rattle.gl_model.specs.declared.row.Item.TheVariants.{Act as Acts, Access, Commit as Commits}
use Rattle.gl_model.specs.declared.row.Judged.{Judged}
use Rattle.gl_model.specs.declared.row.Judged.TheVariants.{NoAccess, Performed, Raised}
use Rattle.gl_model.specs.declared.tx.Tx.{Tx}
use Rattle.gl_model.specs.declared.tx.Why.TheVariants.{Raised as WasRaised}
use Rattle.gl_model.specs.Records.{Lists, Place}
use Rattle.gl_model.specs.Rising.{with_all}
use Rattle.gl_model.specs.HappensBefore.{IsRacy}

-- the record so far, with the next position, the next number on each variable, and who has ended
pub record Tracing : Type 0 where
  pub lists : Lists
  pub next : ℕ
  pub numbers : ℕ → ℕ
  pub ended : ℕ → Bool

-- thread t's list with one entry more
abbrev pub with_entry : Lists → ℕ → Entry → Lists
with_entry R t e u = if u == t then R u ++ e ∷ [] else R u

-- thread t makes an event
abbrev pub with_act : ℕ → Act → Tracing → Tracing
with_act t act s = record s { lists = with_entry s.lists t (Sync s.next act (pos 0)); next = s.next + 1 }

-- thread t makes its End
abbrev pub with_end : ℕ → Tracing → Tracing
with_end t s = record (with_act t End s) { ended = λ u. if u == t then true else s.ended u }

-- the events of a line that is no access: a fork begins its thread, a join ends its thread first
abbrev pub with_line : ℕ → Act → Tracing → Tracing
with_line t (Fork u f) s = with_act u (Begin f) (with_act t (Fork u f) s)
with_line t (Join u) s = if s.ended u then with_act t (Join u) s else with_act t (Join u) (with_end u s)
with_line t (Begin f) s = with_act t (Begin f) s
with_line t End s = with_act t End s
with_line t (Acq o) s = with_act t (Acq o) s
with_line t (Rel o) s = with_act t (Rel o) s
with_line t (VRead v) s = with_act t (VRead v) s
with_line t (VWrite v) s = with_act t (VWrite v) s
with_line t (Alloc c) s = with_act t (Alloc c) s
with_line t Print s = with_act t Print s
with_line t Input s = with_act t Input s
with_line t (Fail code) s = with_act t (Fail code) s

-- a plain access draws the next number of its variable
abbrev pub with_plain : ℕ → ℕ → Bool → Bool → Tracing → Tracing
with_plain t x write raised s =
    record s {
      lists = with_entry s.lists t (Plain x (s.numbers x) false write (pos 0) raised);
      numbers = λ y. if y == x then s.numbers x + 1 else s.numbers y;
    }

-- x is one of these
abbrev pub is_in : ℕ → List ℕ → Bool
is_in x [] = false
is_in x (y ∷ ys) = if x == y then true else is_in x ys

-- how many numbers a commit draws on x: one for its look, if it has one
abbrev pub look_count : List ℕ → ℕ → ℕ
look_count reads x = if is_in x reads then 1 else 0

-- and one of its own, behind that
abbrev pub own_count : List ℕ → List ℕ → ℕ → ℕ
own_count reads writes x = if is_in x reads then 1 else if is_in x writes then 1 else 0

-- the transaction of a commit line
abbrev pub line_tx : List ℕ → List ℕ → (ℕ → ℕ) → Tx
line_tx reads writes numbers = record {
  looks = map (λ x. record { var = x; value = pos 0; nth = numbers x }) reads;
  writes = map (λ x. record { var = x; value = pos 0 }) writes;
  numbers = map (λ x. record { var = x; nth = numbers x + look_count reads x }) (with_all writes reads);
}

-- the next numbers after a commit
abbrev pub with_numbers : List ℕ → List ℕ → (ℕ → ℕ) → ℕ → ℕ
with_numbers reads writes numbers x = numbers x + look_count reads x + own_count reads writes x

-- a commit, or an attempt that was refused for a race on this variable
abbrev pub with_commit : ℕ → List ℕ → List ℕ → Judged → Tracing → Tracing
with_commit t reads writes (Raised var) s =
    record s {
      lists = with_entry s.lists t (Abort (line_tx reads writes s.numbers) (WasRaised var));
      numbers = with_numbers reads writes s.numbers;
    }
with_commit t reads writes _ s =
    record s {
      lists = with_entry s.lists t (Commit s.next (line_tx reads writes s.numbers));
      next = s.next + 1;
      numbers = with_numbers reads writes s.numbers;
    }

-- one line of thread t, with what was said of it: a refused access is raised, a refused commit is an attempt that was dropped for the race
abbrev pub with_item : ℕ → Item → Judged → Tracing → Tracing
with_item t (Acts act) judged s = with_line t act s
with_item t (Access x write) (Raised var) s = with_plain t x write true s
with_item t (Access x write) _ s = with_plain t x write false s
with_item t (Commits reads writes) judged s = with_commit t reads writes judged s

-- a line of a trace: its thread, what it is, and what was said of it
pub record Line : Type 0 where
  pub thread : ℕ
  pub item : Item
  pub judged : Judged

-- before the first line thread 0 has begun
abbrev pub before_lines : Tracing
before_lines = with_act 0 (Begin 0) (record { lists = λ _. []; next = 0; numbers = λ _. 0; ended = λ _. false })

-- the record after these lines
abbrev pub after_lines : List Line → Tracing → Tracing
after_lines [] s = s
after_lines (l ∷ ls) s = after_lines ls (with_item l.thread l.item l.judged s)

-- the place of the last entry of thread t
abbrev pub last_place : Lists → ℕ → Place
last_place R t = record { thread = t; index = length (R t) - 1 }

-- what is said of a line is what the law of races says of its entry, in the record of the lines up to it
abbrev pub IsJudgedRightly : Lists → Place → Item → Judged → Type 0
IsJudgedRightly R c (Acts act) judged = judged ≡ NoAccess
IsJudgedRightly R c item NoAccess = ⊥
IsJudgedRightly R c item Performed = (x : ℕ) → IsRacy R c x → ⊥
IsJudgedRightly R c item (Raised var) = IsRacy R c var × ((x : ℕ) → x < var → IsRacy R c x → ⊥)

-- the trace verdicts: of each line, with what was said of the lines before it
abbrev pub AreVerdicts : List Line → Type 0
AreVerdicts lines =
    (k : ℕ) (l : Line) → slice_get lines k ≡ Some l →
    let R = (after_lines (take (k + 1) lines) before_lines).lists in IsJudgedRightly R (last_place R l.thread) l.item l.judged

-- a thread has no list
abbrev pub is_empty : List Entry → Bool
is_empty [] = true
is_empty (e ∷ es) = false

-- the list of thread t is over
abbrev pub with_over : ℕ → Tracing → Tracing
with_over t s = record s { lists = with_entry s.lists t (Over Halt) }

-- thread t, if it has begun, makes its End, if it has not made it, and its list is over
abbrev pub with_ending : ℕ → Tracing → Tracing
with_ending t s = if is_empty (s.lists t) then s else with_over t (if s.ended t then s else with_end t s)

-- so do the threads below n, by rising number
abbrev pub with_endings : ℕ → Tracing → Tracing
with_endings zero s = s
with_endings (suc n) s = with_ending n (with_endings n s)

-- the record of a trace with what was said of its lines
abbrev pub trace_record : List Line → Lists
trace_record lines = (with_endings THREADS (after_lines lines before_lines)).lists
