-- The rights that are kept, and those that a list gives.
use Rattle.std.proofs.Common.{◌≡◌, ℕ, zero, suc, ◌+◌, ◌<◌, ◌≤◌, List, [], ◌∷◌, ◌++◌, length, map, replicate, refl, sym, ap, arith, ◌∙◌, Bool, true, false, Option, Some, None, eq-eqb, ne_eqb}
use Rattle.std.specs.Prelude.{if◌then◌else◌, slice_index_or, slice_set}
use Rattle.std.specs.List.{All}
use Rattle.std.proofs.Math.ListN.{length-set}
use Rattle.std.proofs.lemmas.List.{get_or-set_same, get_or-set_other, get_or-replicate, length-replicate}
use Rattle.std.proofs.lemmas.List.Elements.{All-head, All-tail}
use native.Mathlib.Decide.{ℕ_discrete}
use Rattle.gl_model.specs.declared.limits.TheConstants.{VARIABLES}
use Rattle.gl_model.specs.Entries.{Entry, Sync, Commit, Plain, Abort, Trim, Over}
use Rattle.gl_model.specs.Kept.{IsEntryKept}
use Rattle.gl_table.specs.RightOf.{right_after, right_from, right_of, rights_after}
use Rattle.gl_table.specs.RightsInside.{right_in}
use Rattle.gl_table.specs.declared.rights.Right.{Right}
use Rattle.gl_table.proofs.RightOf.{right_push}

-- where no right is kept there is none for any variable
none_there : (x : ℕ) → x < VARIABLES → slice_index_or (replicate {A = Option (ℕ × Bool)} VARIABLES None) x None ≡ None
none_there x near = get_or-replicate VARIABLES x None None near

-- after an entry more the right that is kept on x is the one that the entry leaves
pub right_kept : (rights : List (Option (ℕ × Bool))) (x : ℕ) (e : Entry) → x < VARIABLES → length rights ≡ VARIABLES
    → slice_index_or (rights_after rights e) x None ≡ right_after x (slice_index_or rights x None) e
right_kept rights x (Sync at act value) near long = none_there x near
right_kept rights x (Commit at tx) near long = none_there x near
right_kept rights x (Abort tx why) near long = none_there x near
right_kept rights x (Plain var nth false write value true) near long = refl
right_kept rights x (Plain var nth true write value raised) near long = refl
right_kept rights x (Trim low) near long = refl
right_kept rights x (Over ending) near long = refl
right_kept rights x (Plain var nth false write value false) near long = elim (ℕ_discrete x var) [
  | yes e ↦
      ap (λ v. slice_index_or (slice_set rights v (Some (nth, write))) x None) (sym e)
      ∙ get_or-set_same rights x (Some (nth, write)) None (omega arith)
      ∙ sym (ap (λ (b : Bool). if b then Some (nth, write) else slice_index_or rights x None) (eq-eqb var x (sym e)))
  | no ne ↦ get_or-set_other rights var x (Some (nth, write)) None ne
      ∙ sym (ap (λ (b : Bool). if b then Some (nth, write) else slice_index_or rights x None) (ne_eqb var x (λ z. ne (sym z))))
]

-- the number of rights that are kept is that of the variables, after an entry too
pub rights_long : (rights : List (Option (ℕ × Bool))) (e : Entry) → length rights ≡ VARIABLES → length (rights_after rights e) ≡ VARIABLES
rights_long rights (Sync at act value) long = length-replicate {A = Option (ℕ × Bool)} VARIABLES None
rights_long rights (Commit at tx) long = length-replicate {A = Option (ℕ × Bool)} VARIABLES None
rights_long rights (Abort tx why) long = length-replicate {A = Option (ℕ × Bool)} VARIABLES None
rights_long rights (Plain var nth false write value false) long = length-set rights var (Some (nth, write)) ∙ long
rights_long rights (Plain var nth false write value true) long = long
rights_long rights (Plain var nth true write value raised) long = long
rights_long rights (Trim low) long = long
rights_long rights (Over ending) long = long

-- they go on to be those that the list gives
pub rights_push : (rights new : List (Option (ℕ × Bool))) (es more : List Entry) (e : Entry) → length rights ≡ VARIABLES
    → ((x : ℕ) → x < VARIABLES → slice_index_or rights x None ≡ right_of es x) → new ≡ rights_after rights e → more ≡ es ++ e ∷ []
    → (x : ℕ) → x < VARIABLES → slice_index_or new x None ≡ right_of more x
rights_push rights new es more e long are is added x near =
    ap (λ (l : List (Option (ℕ × Bool))). slice_index_or l x None) is ∙ right_kept rights x e near long
    ∙ ap (λ r. right_after x r e) (are x near) ∙ sym (ap (λ l. right_of l x) added ∙ right_push x None es e)

-- of a variable that there is not, entries whose ids are ones that there are give no right
after_far : (x : ℕ) (e : Entry) → VARIABLES ≤ x → IsEntryKept e → right_after x None e ≡ None
after_far x (Sync at act value) far kept = refl
after_far x (Commit at tx) far kept = refl
after_far x (Abort tx why) far kept = refl
after_far x (Plain var nth false write value true) far kept = refl
after_far x (Plain var nth true write value raised) far kept = refl
after_far x (Trim low) far kept = refl
after_far x (Over ending) far kept = refl
after_far x (Plain var nth false write value false) far kept =
    ap (λ (b : Bool). if b then Some (nth, write) else None) (ne_eqb var x (λ e. absurd (omega arith)))

-- a list of kept entries gives no right for a variable that there is not
pub right_far : (x : ℕ) (es : List Entry) → VARIABLES ≤ x → All IsEntryKept es → right_of es x ≡ None
right_far x [] far kept = refl
right_far x (e ∷ es) far kept = ap (λ r. right_from x r es) (after_far x e far (All-head IsEntryKept e es kept))
    ∙ right_far x es far (All-tail IsEntryKept e es kept)

-- ---- the places in which they are kept

-- one place is given anew
pub map_set : {A B : Type 0} (f : A → B) (xs : List A) (i : ℕ) (a : A) → map f (slice_set xs i a) ≡ slice_set (map f xs) i (f a)
map_set f [] i a = refl
map_set f (x ∷ xs) zero a = refl
map_set f (x ∷ xs) (suc i) a = ap (λ l. f x ∷ l) (map_set f xs i a)

-- in a block that begins no right is there
pub none_begun : (b : ℕ) (places : List Right) → All (λ (p : Right). p.block ≤ b) places → map (right_in (b + 1)) places
    ≡ replicate (length places) None
none_begun b [] all = refl
none_begun b (p ∷ places) all =
    let h = All-head (λ (p : Right). p.block ≤ b) p places all in
    let e : right_in (b + 1) p ≡ None = ap (λ (c : Bool). if c then Some (p.nth, p.write) else None)
    (ne_eqb p.block (b + 1) (λ e. absurd (omega arith))) in
    (λ i. e i ∷ none_begun b places (All-tail (λ (p : Right). p.block ≤ b) p places all) i)
