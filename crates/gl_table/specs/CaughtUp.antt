-- The view of a pass with all that it has stored: what it added since its last step, the next step records.
use Rattle.std.specs.Prelude.{ℕ, List, [], ◌∷◌, length, drop, Option, Some, None}
use Rattle.gl_model.specs.declared.tx.Why.TheVariants.{Changed, Raised}
use Rattle.gl_model.specs.Entries.{Entry, Sync, Commit, Plain, Abort, Trim, Over}
use Rattle.gl_model.specs.Records.{variables_of}
use Rattle.gl_draws.specs.Draws.{draw, Looked, Entered}
use Rattle.gl_draws.specs.Ties.{last_position}
use Rattle.gl_rule.specs.Commits.{dropped, stored, cached_in}
use Rattle.gl_rule.specs.View.{View, Shelf, shelf}

abbrev pub first_thread : List Shelf → ℕ
first_thread [] = 0
first_thread (s ∷ l) = s.thread

abbrev pub first_marked : List Shelf → List Entry
first_marked [] = []
first_marked (s ∷ l) = s.marked

abbrev pub or_zero : Option ℕ → ℕ
or_zero None = 0
or_zero (Some p) = p

-- the position of the last event
abbrev pub block_of : List Entry → ℕ
block_of es = or_zero (last_position es)

-- thread t, which has stored l, adds e
abbrev pub adds_one : View → ℕ → List Entry → Entry → View
adds_one v t l (Abort tx (Changed var read found)) =
    dropped v t l (Abort tx (Changed var read found)) (var ∷ []) (draw t (block_of l) (Looked found))
adds_one v t l (Abort tx (Raised var)) = dropped v t l (Abort tx (Raised var)) (variables_of tx)
    (draw t (block_of l) (Entered (Abort tx (Raised var))))
adds_one v t l (Plain x k cached write value raised) = cached_in v t l x k write value
adds_one v t l (Over ending) = stored v t l (Over ending)
adds_one v t l (Sync at act value) = v
adds_one v t l (Commit at tx) = v
adds_one v t l (Trim low) = v

abbrev pub adds_to : View → Entry → View
adds_to v e = adds_one v (first_thread v.shelves) (first_marked v.shelves) e

abbrev pub adds_all : View → List Entry → View
adds_all v [] = v
adds_all v (e ∷ more) = adds_all (adds_to v e) more

-- of thread t, which has stored mine
abbrev pub caught_up : View → ℕ → List Entry → View
caught_up v t mine = record (adds_all v (drop (length (first_marked v.shelves)) mine)) { shelves = shelf t mine ∷ [] }
