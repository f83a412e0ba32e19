-- Each entry of a record keeps to the ids that there are.
use Rattle.std.proofs.Common.{◌≡◌, ℕ, zero, suc, ◌<◌, List, [], ◌∷◌, refl, subst, sym, true, false}
use Rattle.std.specs.Prelude.{Bool, ◌==◌}
use Rattle.std.proofs.lemmas.Bool.{eqb-true}
use Rattle.std.specs.List.{AllByRecursion}
use Rattle.gl_model.specs.declared.limits.TheConstants.{THREADS}
use Rattle.gl_model.specs.Entries.{Entry, Sync, Commit, Plain, Abort, Trim, Over}
use Rattle.gl_model.specs.Form.{At, Form, Listed}
use Rattle.gl_model.specs.Kept.{IsEntryKept, IsListKept, IsRecord}
use Rattle.gl_model.specs.Lists.{lists_of}
use Rattle.gl_model.specs.Records.{Place, EntryAt}
use Rattle.gl_laws.proofs.Histories.{RisingWrites}
use Rattle.gl_flat.specs.Walk.{IsWalkable}

-- what holds of all entries of a list holds of the one at a place
pub all_at : (P : Entry → Type 0) (es : List Entry) → AllByRecursion P es → (i : ℕ) (e : Entry) → At es i e → P e
all_at P [] all i e at = absurd (cc)
all_at P (f ∷ es) all zero e at = let same : f ≡ e = cc in subst P same all.0
all_at P (f ∷ es) all (suc i) e at = all_at P es all.1 i e at

-- an entry of kept lists is of a thread that there is, and keeps to the ids that there are
kept_in : (ls : List (ℕ × List Entry)) → AllByRecursion IsListKept ls → (t i : ℕ) (e : Entry) → At (lists_of ls t) i e → (t < THREADS) ×
    IsEntryKept e
kept_in [] kept t i e at = absurd (cc)
kept_in (l ∷ ls) kept t i e at = here (kept_in ls kept.1 t i e) (l.0 == t) refl at
  where
    here : (At (lists_of ls t) i e → (t < THREADS) × IsEntryKept e) → (b : Bool) → (l.0 == t) ≡ b → At (lists_of (l ∷ ls) t) i e →
        (t < THREADS) × IsEntryKept e
    here rest true is at =
        let s : lists_of (l ∷ ls) t ≡ l.1 = rw is refl in
        (subst (λ u. u < THREADS) (eqb-true l.0 t is) kept.0.0, all_at IsEntryKept l.1 kept.0.2 i e (subst (λ es. At es i e) s at))
    here rest false is at =
        let s : lists_of (l ∷ ls) t ≡ lists_of ls t = rw is refl in
        rest (subst (λ es. At es i e) s at)

-- each entry of a record keeps to the ids that there are
pub kept_at : (made : List (ℕ × List Entry)) → IsRecord made → (c : Place) (e : Entry) → EntryAt (lists_of made) c e → IsEntryKept e
kept_at made record' c e there = (kept_in made record'.1 c.thread c.index e there).1

-- the thread of each entry of a record is one that there is
pub thread_at : (made : List (ℕ × List Entry)) → IsRecord made → (c : Place) (e : Entry) → EntryAt (lists_of made) c e → c.thread < THREADS
thread_at made record' c e there = (kept_in made record'.1 c.thread c.index e there).0

-- each entry of each thread's list keeps to the ids that there are, where the lists do
list_kept : (ls : List (ℕ × List Entry)) → AllByRecursion IsListKept ls → (t : ℕ) → AllByRecursion IsEntryKept (lists_of ls t)
list_kept [] kept t = tt
list_kept (l ∷ ls) kept t = here (list_kept ls kept.1 t) (l.0 == t) refl
  where
    here : AllByRecursion IsEntryKept (lists_of ls t) → (b : Bool) → (l.0 == t) ≡ b → AllByRecursion IsEntryKept (lists_of (l ∷ ls) t)
    here rest true is = let s : lists_of (l ∷ ls) t ≡ l.1 = rw is refl in subst (AllByRecursion IsEntryKept) (sym s) kept.0.2
    here rest false is = let s : lists_of (l ∷ ls) t ≡ lists_of ls t = rw is refl in subst (AllByRecursion IsEntryKept) (sym s) rest

-- each entry of each thread's list in a record keeps to the ids that there are
pub lists_kept : (made : List (ℕ × List Entry)) → IsRecord made → (t : ℕ) → AllByRecursion IsEntryKept (lists_of made t)
lists_kept made record' t = list_kept made record'.1 t

-- a well-formed record whose events are listed can be walked
pub walkable : (made : List (ℕ × List Entry)) → IsRecord made → Form (lists_of made) → Listed (lists_of made) → IsWalkable (lists_of made)
walkable made record' form listed = record { form = form; listed = listed; kept = kept_at made record' }

-- so the writes of a commit rise by variable
pub rising_of : (e : Entry) → IsEntryKept e → RisingWrites e
unfolding RisingWrites
rising_of (Commit at tx) kept = kept.1.1
rising_of (Plain var nth cached write value raised) kept = tt
rising_of (Sync at act value) kept = tt
rising_of (Abort tx why) kept = tt
rising_of (Trim low) kept = tt
rising_of (Over ending) kept = tt
