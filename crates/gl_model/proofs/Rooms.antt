-- A record to which the list of a thread is put that is behind all others.
use Rattle.std.proofs.Common.{ℕ, ◌<◌, List, [], ◌∷◌, ◌++◌, map}
use Rattle.std.specs.List.{AllByRecursion}
use Rattle.gl_model.specs.Entries.{Entry}
use Rattle.gl_model.specs.Kept.{IsListKept, IsRecord}
use Rattle.gl_model.specs.Rising.{Rises}

-- the threads of a record, in its order
abbrev threads : List (ℕ × List Entry) → List ℕ
threads ls = map (λ l. l.0) ls

-- where all are above t, so are they with one more that is
below_more : (t : ℕ) (ls : List (ℕ × List Entry)) (l : ℕ × List Entry) → AllByRecursion (λ u. t < u) (threads ls) → t < l.0
    → AllByRecursion (λ u. t < u) (threads (ls ++ l ∷ []))
below_more t [] l all less = (less, tt)
below_more t (x ∷ ls) l all less = (all.0, below_more t ls l all.1 less)

-- threads that rise do so with one more that is above all
rises_more : (ls : List (ℕ × List Entry)) (l : ℕ × List Entry) → Rises (threads ls) → AllByRecursion (λ x. x.0 < l.0) ls
    → Rises (threads (ls ++ l ∷ []))
rises_more [] l rises all = (tt, tt)
rises_more (x ∷ ls) l rises all = (below_more x.0 ls l rises.0 all.0, rises_more ls l rises.1 all.1)

-- where all lists are kept, so are they with one more that is
kept_more : (ls : List (ℕ × List Entry)) (l : ℕ × List Entry) → AllByRecursion IsListKept ls → IsListKept l
    → AllByRecursion IsListKept (ls ++ l ∷ [])
kept_more [] l all kept = (kept, tt)
kept_more (x ∷ ls) l all kept = (all.0, kept_more ls l all.1 kept)

-- a record is one with the list of a thread more that is above all others
pub record_longer : (ls : List (ℕ × List Entry)) (l : ℕ × List Entry) → IsRecord ls → AllByRecursion (λ x. x.0 < l.0) ls → IsListKept l
    → IsRecord (ls ++ l ∷ [])
record_longer ls l is behind kept = (rises_more ls l is.0 behind, kept_more ls l is.1 kept)
