-- A record to which one more entry was added, as far as it speaks of one variable.
use Rattle.std.specs.Prelude.{◌≡◌, ℕ, ◌<◌, List, [], ◌∷◌, ◌++◌, length, Option, Some, None, ◌⊎◌, ◌↔◌}
use Rattle.gl_model.specs.declared.event.Event.TheVariants.{Commit as Commits}
use Rattle.gl_model.specs.declared.event.Stamp.{Stamp}
use Rattle.gl_model.specs.Entries.{Entry}
use Rattle.gl_model.specs.HappensBefore.{IsRacy}
use Rattle.gl_model.specs.Machine.{Setting, State, Allows, Running}
use Rattle.gl_model.specs.Records.{Lists, Place, EntryAt, IsEventAt, IsEventList, PositionsRise, NumberOn}
use Rattle.gl_laws.specs.Closure.{IsNextPlain, IsNextRefused}
use Rattle.gl_draws.specs.Draws.{Entered, Draw, Among, DrawAt}
use Rattle.gl_draws.specs.NextRaces.{IsRacyNext}
use Rattle.gl_draws.specs.Ties.{AreTied, IsRepeat}
use Rattle.gl_draws.specs.Verdicts.{IsPlaced}

-- the record R, with the events h' and the draws ds', has the entry e at the place d, with the number m on y. Before it the events were
-- h, and the draws of y were ds: those with lower numbers. No entry is a repeat
pub record IsAdded (h h' : List Stamp) (R : Lists) (ds ds' : ℕ → List Draw) (d : Place) (e : Entry) (y m : ℕ) : Type 0 where
  pub listed : IsEventList h' R
  pub rise : PositionsRise R
  pub tied : AreTied R ds'
  pub alone : (c : Place) (g : Entry) → EntryAt R c g → IsRepeat g → ⊥
  pub placed : (o : Draw) → Among (ds' y) o → IsPlaced h' o
  pub before : (o : Draw) → Among (ds y) o → IsPlaced h o
  pub here : EntryAt R d e
  pub number : NumberOn e y m
  pub one : (k : ℕ) → NumberOn e y k → k ≡ m
  pub old : (k : ℕ) (o : Draw) (g : Entry) → DrawAt (ds' y) k o → o.what ≡ Entered g → k < m → Among (ds y) o
  pub fresh : (o : Draw) → Among (ds y) o → (k : ℕ) × (k < m) × DrawAt (ds' y) k o

-- it is a commit on these variables, and the event that was added to h
pub record IsAddedCommit (setting : Setting) (h h' : List Stamp) (R : Lists) (d : Place) (xs : List ℕ) : Type 0 where
  pub event : Stamp
  pub is : event.event ≡ Commits xs
  pub own : event.thread ≡ d.thread
  pub whole : h' ≡ h ++ event ∷ []
  pub here : IsEventAt R d (length h) event
  pub now : State
  pub allowed : Allows setting h' now

-- it is the last of its list: a plain entry, or a commit on these variables, refused or performed
abbrev pub IsAddedAs : Setting → List Stamp → List Stamp → Lists → Place → Option (List ℕ) → Type 0
IsAddedAs setting h h' R d None = (h' ≡ h) × IsNextPlain R d
IsAddedAs setting h h' R d (Some xs) = ((h' ≡ h) × IsNextRefused R d xs) ⊎ IsAddedCommit setting h h' R d xs

-- in any record to which an entry of a running thread was added it is racy exactly where it is so as the next access before it
abbrev pub AddedIsRacy : Type 0
AddedIsRacy =
    (setting : Setting) (h h' : List Stamp) (now : State) → Allows setting h now → (R : Lists) (ds ds' : ℕ → List Draw) (d : Place)
    → now.threads d.thread ≡ Running →
    (e : Entry) (v : Option (List ℕ)) (y m : ℕ) → IsAdded h h' R ds ds' d e y m → IsAddedAs setting h h' R d v
    → IsRacy R d y ↔ IsRacyNext h y (ds y) d.thread v e
