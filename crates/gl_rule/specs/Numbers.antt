-- Numbers: those that were drawn on each variable are counted by its word, and each has its entry or waits for it.
use Rattle.std.specs.Prelude.{◌≡◌, ℕ, suc, ◌+◌, ◌*◌, ◌<◌, ◌≤◌, ◌==◌, if◌then◌else◌, List, [], ◌∷◌, length, Contains, Option, Some}
use Rattle.std.specs.List.{All}
use Rattle.gl_model.specs.declared.limits.TheConstants.{THREADS, VARIABLES}
use Rattle.gl_model.specs.Entries.{Entry}
use Rattle.gl_model.specs.Form.{At, Draws, IsEnd}
use Rattle.gl_draws.specs.Draws.{Draw, Among}
use Rattle.gl_draws.specs.Ties.{Drawn, AreDrawn, count_by, counted, last_position}
use Rattle.gl_rule.specs.View.{View, Shelf}
use Rattle.gl_rule.specs.Bounded.{most_entries}

-- a row's counter is the number of draws; a thread of each draw is one that there is, and drew so few that no counter wraps
pub record NumbersHold (count : ℕ → ℕ) (draws : ℕ → List Draw) : Type 0 where
  pub counts : (x : ℕ) → x < VARIABLES → count (suc x) ≡ length (draws x)
  pub threads : (x : ℕ) (d : Draw) → Among (draws x) d → d.thread < THREADS
  pub few : (x t : ℕ) → count_by t (draws x) ≤ 2 * most_entries + 2

-- how many of these numbers are of x
abbrev pub count_on : ℕ → List Drawn → ℕ
count_on x [] = 0
count_on x (o ∷ os) = if o.var == x then suc (count_on x os) else count_on x os

-- the numbers of one thread: each draw of it has its entry in the list, or waits among `drawn`
pub record ShelfDraws (draws : ℕ → List Draw) (drawn : List Drawn) (s : Shelf) : Type 0 where
  pub numbers : AreDrawn draws s.thread s.marked drawn
  -- an entry draws at most two numbers of one variable, and at most two have none yet
  pub few : (x : ℕ) → count_by s.thread (draws x) ≤ 2 * counted s.marked + count_on x drawn
  pub two : (x : ℕ) → count_on x drawn ≤ 2
  -- those that have none yet are above those of the list
  pub above : (x k m i : ℕ) (e : Entry) (o : Option _) → At s.marked i e → Draws e x k
      → Contains drawn (record { var = x; nth = m; look = o }) → k < m
  -- and their thread runs
  pub runs : (o : Drawn) → Contains drawn o → (p : ℕ) × (last_position s.marked ≡ Some p)
      × ((i : ℕ) (e : Entry) → At s.marked i e → IsEnd e → ⊥)

pub record NumbersFit (draws : ℕ → List Draw) (v : View) : Type 0 where
  pub shelves : All (ShelfDraws draws v.drawn) v.shelves
