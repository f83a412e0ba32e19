-- Whether an attempt has room for a variable.
use Rattle.std.proofs.Common.{◌≡◌, ◌≢◌, ℕ, ◌<◌, ◌≤◌, List, length, map, true, false, refl, sym, ap, ◌∙◌, subst, arith, Some, None, inl, inr}
use Rattle.std.specs.Prelude.{Contains, Option, ◌⊎◌}
use Rattle.std.proofs.lemmas.Bool.{cases_Bool}
use Rattle.gl_model.specs.declared.limits.TheConstants.{TX_VARIABLES}
use Rattle.gl_model.specs.declared.tx.Look.{Look}
use Rattle.gl_model.specs.declared.tx.Pair.{Pair}
use Rattle.gl_model.specs.Rising.{with_one, with_all, with_part}
use Rattle.gl_txn.specs.Attempts.{Attempting, written, looked, is_in, is_in_by, size, variables_in, IsTooLarge}
use Rattle.gl_model.proofs.PutParts.{keys_with, all_grow, all_one, one_all, all_left, all_right, all_from, found_among, not_found}

-- the variable of a write
abbrev pub of_write : Pair → ℕ
of_write p = p.var

-- the variable of a look
abbrev pub of_look : Look → ℕ
of_look p = p.var

-- a variable that is in it is one of its variables, and the other way round
in_by : (a : Attempting) (x : ℕ) (w : Option Pair) (l : Option Look) → written a x ≡ w → looked a x ≡ l → is_in_by w l ≡ true
    → Contains (variables_in a.looks a.writes) x
in_by a x (Some w) l e f b = all_left (map of_write a.writes) (map of_look a.looks) x (found_among of_write x a.writes w e)
in_by a x None (Some l) e f b = all_right (map of_write a.writes) (map of_look a.looks) x (found_among of_look x a.looks l f)
in_by a x None None e f b = absurd (cc)

-- a variable that the attempt has is among the variables of its looks and writes
pub is_variable : (a : Attempting) (x : ℕ) → is_in a x ≡ true → Contains (variables_in a.looks a.writes) x
is_variable a x b = in_by a x (written a x) (looked a x) refl refl b

-- a variable that is neither looked at nor written is not among them
out_by : (a : Attempting) (x : ℕ) (w : Option Pair) (l : Option Look) → written a x ≡ w → looked a x ≡ l → is_in_by w l ≡ false
    → Contains (variables_in a.looks a.writes) x → ⊥
out_by a x (Some w) l e f b c = absurd (cc)
out_by a x None (Some l) e f b c = absurd (cc)
out_by a x None None e f b c = elim (all_from (map of_write a.writes) (map of_look a.looks) x c)
    [ inl w ↦ not_found of_write x a.writes e w | inr l ↦ not_found of_look x a.looks f l ]

-- a variable that the attempt does not have is not among them
pub is_no_variable : (a : Attempting) (x : ℕ) → is_in a x ≡ false → Contains (variables_in a.looks a.writes) x → ⊥
is_no_variable a x b c = out_by a x (written a x) (looked a x) refl refl b c

-- a set that is full has no room for it
pub too_large : (a : Attempting) (x : ℕ) (all : List ℕ) → all ≡ variables_in a.looks a.writes → (length all ≡ TX_VARIABLES)
    × (Contains all x → ⊥) → IsTooLarge a x
too_large a x all is full = record {
  new = elim (cases_Bool (is_in a x)) [ inl b ↦ absurd (full.1 (subst (λ l. Contains l x) (sym is) (is_variable a x b))) | inr b ↦ b ];
  full = ap length (sym is) ∙ full.0;
}

-- and one that is not has room
pub has_room : (a : Attempting) (x : ℕ) (all : List ℕ) → all ≡ variables_in a.looks a.writes → length all ≤ TX_VARIABLES
    → ((length all ≡ TX_VARIABLES) × (Contains all x → ⊥) → ⊥) → (is_in a x ≡ true) ⊎ (size a < TX_VARIABLES)
has_room a x all is most not_full = elim (cases_Bool (is_in a x)) [
  | inl b ↦ inl b
  | inr b ↦ inr (let e = ap length is in below (λ f. not_full (f, λ c. is_no_variable a x b (subst (λ l. Contains l x) is c))) e)
]
  where
    below : (length all ≢ TX_VARIABLES) → length all ≡ size a → size a < TX_VARIABLES
    below ne e = omega arith

-- the variables with one more write, and with one more look
pub write_variables : (looks : List Look) (writes : List Pair) (w : Pair) → with_one w.var (variables_in looks writes)
    ≡ variables_in looks (with_part of_write w writes)
write_variables looks writes w = sym (ap (λ l. with_all l (map of_look looks)) (keys_with of_write w writes)
    ∙ one_all w.var (map of_write writes) (map of_look looks))

-- putting the variable of a look among them is having the look among the looks
pub look_variables : (looks : List Look) (writes : List Pair) (l : Look) → with_one l.var (variables_in looks writes)
    ≡ variables_in (with_part of_look l looks) writes
look_variables looks writes l = sym (ap (with_all (map of_write writes)) (keys_with of_look l looks)
    ∙ all_one (map of_write writes) l.var (map of_look looks))

-- a variable that is not in it is neither written nor looked at
pub neither : (a : Attempting) (x : ℕ) → written a x ≡ None → looked a x ≡ None → is_in a x ≡ false
neither a x e f = ap (λ w. is_in_by w (looked a x)) e ∙ ap (is_in_by None) f

-- and where there is room for one more variable, there is room for one more look
pub look_fits : (a : Attempting) (x : ℕ) → is_in a x ≡ false → (all looked : List ℕ) → all ≡ variables_in a.looks a.writes → looked
    ≡ map of_look a.looks → length all ≤ TX_VARIABLES
    → ((length all ≡ TX_VARIABLES) × (Contains all x → ⊥) → ⊥) → (length looked < TX_VARIABLES) × (size a < TX_VARIABLES)
look_fits a x out all looked is are most not_full =
    let small : size a < TX_VARIABLES = elim (has_room a x all is most not_full)
    [ inl b ↦ absurd (let z : true ≡ false = sym b ∙ out in cc) | inr l ↦ l ] in
    let grows = all_grow (map of_write a.writes) (map of_look a.looks) in
    let e = ap length are in
    (omega arith, small)

-- after a write the variables are as before with its variable put among them
pub written_all : (looks : List Look) (writes new : List Pair) (w : Pair) → new ≡ with_part of_write w writes
    → with_one w.var (variables_in looks writes) ≡ variables_in looks new
written_all looks writes new w is = write_variables looks writes w ∙ ap (variables_in looks) (sym is)

-- after a look the variables are as before with its variable put among them
pub looked_all : (x : ℕ) (looks new : List Look) (writes : List Pair) (l : Look) → new ≡ with_part of_look l looks → l.var ≡ x
    → with_one x (variables_in looks writes) ≡ variables_in new writes
looked_all x looks new writes l is at = ap (λ y. with_one y (variables_in looks writes)) (sym at) ∙ look_variables looks writes l
    ∙ ap (λ ls. variables_in ls writes) (sym is)

-- after a look the variables of the looks are as before with its variable put among them
pub looked_keys : (x : ℕ) (looks new : List Look) (l : Look) → new ≡ with_part of_look l looks → l.var ≡ x → with_one x (map of_look looks)
    ≡ map of_look new
looked_keys x looks new l is at = ap (λ y. with_one y (map of_look looks)) (sym at) ∙ sym (keys_with of_look l looks)
    ∙ ap (map of_look) (sym is)
