-- Exchanges of a thread's machine, and the entry that answers it next.
use Rattle.std.proofs.Common.{◌≡◌, ℕ, List, [], ◌∷◌, ◌++◌, Some, refl, ◌∙◌, ap}
use Rattle.gl_model.specs.Entries.{Entry}
use Rattle.gl_bytecode.specs.Fits.{Fits}
use Rattle.gl_bytecode.specs.Forced.{EndsMade}
use Rattle.gl_bytecode.specs.Machine.{fresh}
use Rattle.gl_bytecode.specs.Programs.{Bytecode}
use Rattle.gl_bytecode.specs.Runs.{Exchange, Made, Quiet, Progress, entries_of, told, told_one}
use Rattle.gl_bytecode.specs.Validity.{IsValid}
use Rattle.gl_bytecode.proofs.Exchanges.{told_cons, told_none}
use Rattle.gl_follow.proofs.Peeling.{told_more}

-- a new machine of a valid program fits it
pub fits_fresh : (P : Bytecode) (t steps : ℕ) → IsValid P → Fits P (fresh P t steps)
fits_fresh P t steps valid = record { depths = valid.0; sound = valid.1; keeps = (refl, refl); attends = tt }

-- ## An exchange more

-- exchanges that lead on and one more that does lead on together
pub told_on : (P : Bytecode) (xs : List Exchange) (x : Exchange) (p m q : Progress) → told P p xs ≡ Some m → told_one P x m ≡ Some q
    → told P p (xs ++ x ∷ []) ≡ Some q
unfolding told
told_on P [] x p m q is last =
    told_more P x [] p q (Some q) (ap (told_one P x) (told_none P p m is) ∙ last) refl
told_on P (y ∷ xs) x p m q is last =
    let parts = told_cons P y xs p m is in
    told_more P y (xs ++ x ∷ []) p parts.mid (Some q) parts.first (told_on P xs x parts.mid m q parts.rest last)

-- one more exchange with an entry puts that entry at the end of the entries
pub entries_on : (xs : List Exchange) (e : Entry) → entries_of (xs ++ Made e ∷ []) ≡ entries_of xs ++ e ∷ []
entries_on [] e = refl
entries_on (Made d ∷ xs) e = ap (λ es. d ∷ es) (entries_on xs e)
entries_on (Quiet r ∷ xs) e = entries_on xs e

-- exchanges with one more that has an entry end with an entry
pub ends_made : (xs : List Exchange) (e : Entry) → EndsMade (xs ++ Made e ∷ [])
ends_made [] e = tt
ends_made (Made d ∷ []) e = tt
ends_made (Quiet r ∷ []) e = tt
ends_made (Made d ∷ (y ∷ ys)) e = ends_made (y ∷ ys) e
ends_made (Quiet r ∷ (y ∷ ys)) e = ends_made (y ∷ ys) e

-- a list with one more at its end is not empty
none_on : {A : Type 0} (xs : List A) (x : A) → [] ≡ xs ++ x ∷ [] → ⊥
none_on [] x is = cc
none_on (y ∷ xs) x is = cc

-- two lists with the same one behind them, where they are the same then
pub same_front : {A : Type 0} (xs ys : List A) (x : A) → xs ++ x ∷ [] ≡ ys ++ x ∷ [] → xs ≡ ys
same_front [] [] x is = refl
same_front [] (y ∷ ys) x is = absurd (none_on ys x (let tails : [] ≡ ys ++ x ∷ [] = cc in tails))
same_front (y ∷ xs) [] x is = absurd (none_on xs x (let tails : [] ≡ xs ++ x ∷ [] = cc in tails))
same_front (y ∷ xs) (z ∷ ys) x is =
    let heads : y ≡ z = cc in
    let tails : xs ++ x ∷ [] ≡ ys ++ x ∷ [] = cc in
    ap (λ zs. y ∷ zs) (same_front xs ys x tails) ∙ ap (λ a. a ∷ ys) heads

-- ## Behind an entry
