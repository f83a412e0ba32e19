-- The variables of a transaction, in the order of its numbers.
use Rattle.std.proofs.Common.{◌≡◌, ℕ, zero, suc, ◌+◌, ◌<◌, ◌==◌, List, [], ◌∷◌, ◌++◌, map, take, false, ap, sym, ◌∙◌, subst, arith, Some}
use Rattle.std.specs.Prelude.{slice_get, nat_lt}
use Rattle.std.specs.List.{AllByRecursion}
use Rattle.std.proofs.lemmas.Bool.Decides.{nat_tests}
use Rattle.std.proofs.lemmas.List.{map-append, take_more}
use Rattle.std.proofs.lemmas.Option.{slice_get_within, get_or_from_slice_get}
use Rattle.gl_model.specs.declared.tx.Number.{Number}
use Rattle.gl_model.specs.Rising.{Rises, with_one}

-- what holds of each holds of one
pub all_at : {A : Type 0} (P : ℕ → Type 0) (key : A → ℕ) (xs : List A) → AllByRecursion P (map key xs) → (i : ℕ) (x : A) → slice_get xs i
    ≡ Some x → P (key x)
all_at P key [] all i x e = absurd (cc)
all_at P key (y ∷ xs) all zero x e = let z : y ≡ x = cc in subst (λ w. P (key w)) z all.0
all_at P key (y ∷ xs) all (suc i) x e = all_at P key xs all.1 i x e

-- one more is taken
pub taken_more : {A B : Type 0} (f : A → B) (xs : List A) (i : ℕ) (x : A) → slice_get xs i ≡ Some x → map f (take (i + 1) xs)
    ≡ map f (take i xs) ++ f x ∷ []
taken_more f xs i x e =
    ap (map f) (take_more xs i x (slice_get_within xs i x e) ∙ ap (λ z. take i xs ++ z ∷ []) (get_or_from_slice_get xs i x x e))
    ∙ map-append f (take i xs) (x ∷ [])

-- the variable of the next number is put last among those before it
put_last : (ns : List Number) → Rises (map (λ n. n.var) ns) → (i : ℕ) (n : Number) → slice_get ns i ≡ Some n
    → with_one n.var (map (λ n. n.var) (take i ns)) ≡ map (λ n. n.var) (take (suc i) ns)
put_last [] rises i n e = absurd (cc)
put_last (m ∷ ns) rises zero n e = let z : m ≡ n = cc in ap (λ (w : Number). w.var ∷ []) (sym z)
put_last (m ∷ ns) rises (suc i) n e =
    let less : m.var < n.var = all_at (λ y. m.var < y) (λ (w : Number). w.var) ns rises.0 i n e in
    let other : (n.var == m.var) ≡ false = grind (arith, nat_tests) in
    let over : nat_lt n.var m.var ≡ false = grind (arith, nat_tests) in
    rw (other, over) (ap (λ l. m.var ∷ l) (put_last ns rises.1 i n e))

-- the variables up to one place more are those up to it, with its own put among them
pub named_more :
    (ns : List Number) → Rises (map (λ n. n.var) ns) → (i : ℕ) (n : Number) (all new : List ℕ) → slice_get ns i ≡ Some n → all
    ≡ map (λ n. n.var) (take i ns) → new ≡ with_one n.var all →
    new ≡ map (λ n. n.var) (take (i + 1) ns)
named_more ns rises i n all new e are is = is ∙ ap (with_one n.var) are ∙ put_last ns rises i n e
    ∙ (let z : suc i ≡ i + 1 = omega arith in ap (λ k. map (λ (w : Number). w.var) (take k ns)) z)
