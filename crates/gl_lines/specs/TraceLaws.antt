-- The laws of traces: what the lines leave belongs together, and a line is judged rightly by the rows of its variables.
use Rattle.std.specs.Prelude.{◌≡◌, ℕ, ◌<◌, true, List, [], ◌∷◌, ◌++◌, Contains, Option, Some, None, ◌↔◌}
use Rattle.gl_model.specs.declared.row.Item.{Item}
use Rattle.gl_model.specs.declared.row.Item.TheVariants.{Act as Acts, Access, Commit as CommitsOn}
use Rattle.gl_model.specs.declared.row.Judged.{Judged}
use Rattle.gl_model.specs.declared.row.Judged.TheVariants.{NoAccess, Performed, Raised}
use Rattle.gl_model.specs.declared.row.Question.{Question}
use Rattle.gl_model.specs.declared.row.Row.{Row}
use Rattle.gl_model.specs.Entries.{Entry}
use Rattle.gl_model.specs.HappensBefore.{IsRacy}
use Rattle.gl_model.specs.Machine.{State, Allows, Running, trace_setting}
use Rattle.gl_model.specs.Records.{Lists, Place, EntryAt}
use Rattle.gl_model.specs.Rising.{with_all}
use Rattle.gl_model.specs.Trace.{Line, after_lines, before_lines, last_place, AreVerdicts}
use Rattle.gl_model.specs.TraceSteps.{is_running}
use Rattle.gl_draws.specs.Events.{AreEvents}
use Rattle.gl_draws.specs.NextRaces.{IsRacyNext}
use Rattle.gl_draws.specs.RowFacts.{RowStands, SomeFails}
use Rattle.gl_draws.specs.Ties.{AreTied, IsRepeat}
use Rattle.gl_lines.specs.Traced.{block_of, entered, traced, history, draws_of}
use Rattle.gl_lines.specs.TraceStates.{IsStateOf, steps_of, AreSound}
use Rattle.gl_draws.specs.Verdicts.{IsRacyAmong, DrawsHold}

-- the record behind these lines
abbrev pub lists_behind : List Line → Lists
lists_behind lines = (after_lines lines before_lines).lists

-- the machine allows the events of a sound trace, and its state is then as the steps leave it
abbrev pub TraceIsAllowed : Type 0
TraceIsAllowed = (lines : List Line) → AreSound lines → (now : State) × Allows trace_setting (history lines) now
    × IsStateOf (steps_of lines) now

-- a thread runs in that state exactly where the steps say so
abbrev pub RunsAsSaid : Type 0
RunsAsSaid = (lines : List Line) (now : State) → IsStateOf (steps_of lines) now → (t : ℕ)
    → (now.threads t ≡ Running) ↔ (is_running (steps_of lines) t ≡ true)

-- the lists are those of the events and of the draws, and no entry is a repeat
pub record AreTraced (lines : List Line) : Type 0 where
  pub events : (t : ℕ) → AreEvents (history lines) t (lists_behind lines t)
  pub tied : AreTied (lists_behind lines) (draws_of lines)
  pub alone : (c : Place) (e : Entry) → EntryAt (lists_behind lines) c e → IsRepeat e → ⊥

abbrev pub TraceIsTied : Type 0
TraceIsTied = (lines : List Line) → AreSound lines → AreTraced lines

-- where the verdicts are right, what they say of each draw holds
abbrev pub VerdictsHold : Type 0
VerdictsHold = (lines : List Line) → AreSound lines → AreVerdicts lines → (x : ℕ) → DrawsHold (history lines) x (draws_of lines x)

-- the variables that a line accesses
abbrev pub Accesses : Item → ℕ → Type 0
Accesses (Acts act) y = ⊥
Accesses (Access x write) y = x ≡ y
Accesses (CommitsOn reads writes) y = Contains (with_all writes reads) y

-- those that it writes, or would have
abbrev pub WritesTo : Item → ℕ → Type 0
WritesTo (Acts act) y = ⊥
WritesTo (Access x write) y = write ≡ true
WritesTo (CommitsOn reads writes) y = Contains writes y

-- its variables, if it is a commit
abbrev pub commit_of : Item → Option (List ℕ)
commit_of (Acts act) = None
commit_of (Access x write) = None
commit_of (CommitsOn reads writes) = Some (with_all writes reads)

-- the entry of the last line is racy in the record behind it exactly where it is so as the next access behind the lines before
abbrev pub LastIsRacy : Type 0
LastIsRacy =
    (lines : List Line) (l : Line) → AreSound (lines ++ l ∷ []) → (f : Entry) →
    EntryAt (lists_behind (lines ++ l ∷ [])) (last_place (lists_behind (lines ++ l ∷ [])) l.thread) f → (y : ℕ) → Accesses l.item y →
    IsRacy (lists_behind (lines ++ l ∷ [])) (last_place (lists_behind (lines ++ l ∷ [])) l.thread) y ↔
    IsRacyNext (history lines) y (draws_of lines y) l.thread (commit_of l.item) f

-- for a plain access that is what is said of its draw, in the block of its thread's last event
abbrev pub NextIsAmong : Type 0
NextIsAmong =
    (lines : List Line) (l : Line) → AreSound (lines ++ l ∷ []) → (f : Entry) (y : ℕ) →
    IsRacyNext (history lines) y (draws_of lines y) l.thread None f ↔ IsRacyAmong (history lines) y (draws_of lines y) l.thread
    (block_of l.thread (traced lines)) f

-- the question is what a line of thread t asks of the variable y
pub record Asks (t : ℕ) (item : Item) (y : ℕ) (question : Question) : Type 0 where
  pub thread : question.thread ≡ t
  pub write : (question.write ≡ true) ↔ WritesTo item y
  pub commit : question.commit ≡ commit_of item

-- the line is judged by the variables on which a test fails: the least of them is named
abbrev pub IsJudgedBy : (ℕ → Type 0) → Item → Judged → Type 0
IsJudgedBy fails (Acts act) judged = judged ≡ NoAccess
IsJudgedBy fails item NoAccess = ⊥
IsJudgedBy fails item Performed = (y : ℕ) → Accesses item y → fails y → ⊥
IsJudgedBy fails item (Raised var) = Accesses item var × fails var × ((y : ℕ) → y < var → Accesses item y → fails y → ⊥)

-- a line that is judged by the variables on which its entry is racy, as the next access, is judged rightly, where the lines before are
abbrev pub RacesAreVerdicts : Type 0
RacesAreVerdicts =
    (lines : List Line) (l : Line) → AreSound (lines ++ l ∷ []) → AreVerdicts lines →
    IsJudgedBy (λ y. IsRacyNext (history lines) y (draws_of lines y) l.thread (commit_of l.item) (entered l.item l.judged (traced lines)))
    l.item l.judged → AreVerdicts (lines ++ l ∷ [])

-- what is rightly said of the last line is settled by the lines before it and by what it says
abbrev pub LastIsSettled : Type 0
LastIsSettled =
    (lines : List Line) (t : ℕ) (item : Item) (a b : Judged) → AreSound (lines ++ record { thread = t; item = item; judged = a } ∷ []) →
    AreVerdicts (lines ++ record { thread = t; item = item; judged = a } ∷ [])
    → AreVerdicts (lines ++ record { thread = t; item = item; judged = b } ∷ []) → a ≡ b

-- over rows that stand, a line that is judged by them is judged rightly, where the lines before are
abbrev pub VerdictsGrow : Type 0
VerdictsGrow =
    (lines : List Line) (l : Line) → AreSound (lines ++ l ∷ []) → AreVerdicts lines → (rows : ℕ → Row) (questions : ℕ → Question) →
    ((y : ℕ) → Accesses l.item y → RowStands trace_setting (history lines) y (draws_of lines y) (rows y)) →
    ((y : ℕ) → Accesses l.item y → Asks l.thread l.item y (questions y)) →
    IsJudgedBy (λ y. SomeFails (history lines) (rows y) (questions y)) l.item l.judged → AreVerdicts (lines ++ l ∷ [])
