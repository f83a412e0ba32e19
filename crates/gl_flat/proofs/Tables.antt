-- A table of words: what an index may be, what a write changes, and what looks say of it.
use Rattle.std.proofs.Common.{◌≡◌, ◌≢◌, ℕ, zero, suc, ◌+◌, ◌<◌, ◌≤◌, List, [], ◌∷◌, length, take, map, refl, ap, subst, sym, ◌∙◌, arith, Some, true, false, add-one, get_or-set_other, get_or-set_same}
use Rattle.std.specs.Prelude.{Bool, ℤ, MatchBool, slice_get, slice_set}
use Rattle.std.specs.List.{AllByRecursion}
use native.Mathlib.Decide.{ℕ_discrete}
use Rattle.gl_model.specs.declared.limits.TheConstants.{TX_VARIABLES, VARIABLES}
use Rattle.gl_model.specs.declared.tx.Pair.{Pair}
use Rattle.gl_model.specs.declared.tx.Tx.{Tx}
use Rattle.gl_model.specs.Entries.{Commit}
use Rattle.gl_model.specs.Flat.{LooksAgree, stored}
use Rattle.gl_model.specs.Kept.{AreVariables}
use Rattle.gl_model.specs.Machine.{with_at}
use Rattle.gl_draws.proofs.DrawTies.{with_here, with_else}
use Rattle.gl_flat.specs.Walk.{AgreesWith, DiffersFrom, LooksDiffer, word_in}
use Rattle.gl_flat.proofs.FlatList.{at_contains, contains_at}

-- a part has a variable that there is
pub kept_part : {A : Type 0} (key : A → ℕ) (n : ℕ) (ps : List A) (i : ℕ) (a : A) → AllByRecursion (λ x. x < n) (map key ps) →
    slice_get ps i ≡ Some a → key a < n
kept_part key n [] i a all at = absurd (cc)
kept_part key n (p ∷ ps) zero a all at = let same : p ≡ a = cc in subst (λ z. key z < n) same all.0
kept_part key n (p ∷ ps) (suc i) a all at = kept_part key n ps i a all.1 at

-- a mapped list is as long as the list
pub map_length : {A B : Type 0} (f : A → B) (ps : List A) → length (map f ps) ≡ length ps
map_length f [] = refl
map_length f (p ∷ ps) = ap suc (map_length f ps)

-- parts whose variables rise are at most TX_VARIABLES
pub few_parts : {A : Type 0} (key : A → ℕ) (ps : List A) → AreVariables (map key ps) → length ps ≤ TX_VARIABLES
few_parts key ps are = let n = are.0 in let same = map_length key ps in omega arith

-- the words after one write more are those before it, with its value at its variable
stored_more : (words : ℕ → ℤ) (ws : List Pair) (i : ℕ) (w : Pair) → slice_get ws i ≡ Some w → (x : ℕ) →
    stored words (take (suc i) ws) x ≡ with_at (stored words (take i ws)) w.var w.value x
stored_more words [] i w at x = absurd (cc)
stored_more words (v ∷ ws) zero w at x = let same : v ≡ w = cc in rw same refl
stored_more words (v ∷ ws) (suc i) w at x = stored_more (with_at words v.var v.value) ws i w at x

-- setting the word at k of a table to v gives v at k, and leaves the other words
pub set_word : (table : List ℤ) (k : ℕ) (v : ℤ) (x : ℕ) → k < length table → word_in (slice_set table k v) x ≡ with_at (word_in table) k v x
set_word table k v x near = elim (ℕ_discrete x k) [
  | yes same ↦ subst (λ y. word_in (slice_set table k v) y ≡ with_at (word_in table) k v y) (sym same)
      (here ∙ sym (with_here (word_in table) k v))
  | no ne ↦ other ne ∙ sym (with_else (word_in table) k x v ne)
]
  where
    here : word_in (slice_set table k v) k ≡ v
    here = rw get_or-set_same refl

    other : x ≢ k → word_in (slice_set table k v) x ≡ word_in table x
    other ne = rw get_or-set_other refl

-- a table with the next write stored has the words after that
pub store_step : (table before : List ℤ) (ws : List Pair) (i : ℕ) (w : Pair) → length table ≡ VARIABLES → w.var < VARIABLES →
    slice_get ws i ≡ Some w →
    ((x : ℕ) → x < VARIABLES → word_in table x ≡ stored (word_in before) (take i ws) x) → (x : ℕ) → x < VARIABLES →
    word_in (slice_set table w.var w.value) x ≡ stored (word_in before) (take (i + 1) ws) x
store_step table before ws i w size kept at so_far x near = elim (ℕ_discrete x w.var) [
  | yes same ↦
      set_word table w.var w.value x (omega arith) ∙ (ap (with_at (word_in table) w.var w.value) same ∙
      with_here (word_in table) w.var w.value)
      ∙ sym (step ∙ (ap (with_at (stored (word_in before) (take i ws)) w.var w.value) same ∙
      with_here (stored (word_in before) (take i ws)) w.var w.value))
  | no ne ↦
      set_word table w.var w.value x (omega arith) ∙ with_else (word_in table) w.var x w.value ne ∙ so_far x near
      ∙ sym (step ∙ with_else (stored (word_in before) (take i ws)) w.var x w.value ne)
]
  where
    step : stored (word_in before) (take (i + 1) ws) x ≡ with_at (stored (word_in before) (take i ws)) w.var w.value x
    step = rw (add-one i) (stored_more (word_in before) ws i w at x)

-- an answer whether the looks of a commit agree with the words is one whether the commit does
pub commit_agrees : (words : ℕ → ℤ) (at : ℕ) (tx : Tx) (b : Bool) → MatchBool b (LooksAgree words tx.looks) (LooksDiffer words tx.looks) →
    MatchBool b (AgreesWith words (Commit at tx)) (DiffersFrom words (Commit at tx))
commit_agrees words at tx true agree = λ x v r. let k = at_contains tx.looks r.0 r.1 in sym r.3 ∙ agree k.0 r.0 k.1 ∙ ap words r.2
commit_agrees words at tx false differ = let l = differ.1.0 in
    (l.var, (l.value, (l, contains_at tx.looks differ.0 l differ.1.1, refl, refl), differ.1.2))
