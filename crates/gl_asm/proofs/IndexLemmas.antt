-- Looking names up in their index.
use Rattle.std.proofs.Common.{◌≡◌, not, ◌+◌, ◌≤◌, ℕ, List, [], ◌∷◌, ◌++◌, Bool, true, false, cond, if◌then◌else◌, ◌==◌, ◌&&◌, nat_lt, Option, Some, None, is_some, Ordering, Less, Equal, Greater, is_eq, nat_cmp, bytes_eq, length, position, find, slice_get, option_and_then, refl, sym, ap, ap₂, ◌∙◌, arith, ⊎_elim, length-append, tests}
use Rattle.std.specs.List.{position_or_len}
use Rattle.std.specs.Option.{option_or}
use Rattle.std.specs.Ordering.{ordering_then}
use Rattle.std.specs.Cmp.Lexicographic.{slice_cmp, bytes_decides}
use Rattle.std.specs.Borrow.{Bor}
use Rattle.std.specs.BTreeMap.{BTreeMap, Updates, is_at}
use Rattle.std.specs.Map.{lookup}
use Rattle.std.proofs.lemmas.Bool.{cases_Bool}
use Rattle.std.proofs.lemmas.List.Folds.{find_at, position_or_len_push}
use Rattle.std.proofs.lemmas.Map.Text.{is_eq-slice_cmp}
use Rattle.std.proofs.lemmas.Option.{slice_get_past}
use Rattle.gl_asm.specs.declared.definitions.Definition.{Definition}
use Rattle.gl_asm.specs.declared.definitions.Scope.{Scope}
use Rattle.gl_asm.specs.declared.definitions.Scope.TheVariants.{Classes, Functions, Labels}
use Rattle.gl_asm.specs.Definitions.{defines, first_definition, same_scope}
use Rattle.gl_asm.specs.NameIndex.{IsIndex, IsNoted, Key, is_key, key_cmp, place_in, scope_key}

-- ## Places

module _ {X : Type 0} (p : X → Bool) where
  -- the place that is told of the first that passes is at most the length
  place_upto : (xs : List X) → position_or_len p xs ≤ length xs
  place_upto [] = omega arith
  place_upto (x ∷ xs) = by (p x) (place_upto xs)
    where
      by : (b : Bool) → position_or_len p xs ≤ length xs → cond (not b) (1 + position_or_len p xs) 0 ≤ length (x ∷ xs)
      by true rest = omega arith
      by false rest = omega (arith, rest)

  -- the first place that passes, with one more at the end, is the one before, or else the end if the new one passes
  place_push : (xs : List X) (x : X) → position p (xs ++ x ∷ []) ≡ option_or (position p xs) (if p x then Some (length xs) else None)
  place_push xs x = by (p x) (position_or_len p xs) (position_or_len p (xs ++ x ∷ [])) (length xs) (length (xs ++ x ∷ [])) (place_upto xs)
      (position_or_len_push p xs x) (length-append xs (x ∷ []))
    where
      by : (b : Bool) (n m k l : ℕ) → n ≤ k → m ≡ cond (n == k) (k + cond b 0 1) n → l ≡ k + 1
          → cond (nat_lt m l) (Some m) None ≡ option_or (cond (nat_lt n k) (Some n) None) (if b then Some k else None)
      by true n m k l upto e f = grind (arith, tests)
      by false n m k l upto e f = grind (arith, tests)

  -- what stands at the first place that passes is what is found
  at_place : (xs : List X) → option_and_then (slice_get xs) (position p xs) ≡ find p xs
  at_place xs = ⊎_elim
      (λ yes. ap (option_and_then (slice_get xs)) (ap (λ b. cond b (Some (position_or_len p xs)) None) yes) ∙ sym (find_at p xs))
      (λ no. ap (option_and_then (slice_get xs)) (ap (λ b. cond b (Some (position_or_len p xs)) None) no)
      ∙ sym (find_at p xs ∙ slice_get_past xs (position_or_len p xs) (grind (arith, tests, no))))
      (cases_Bool (nat_lt (position_or_len p xs) (length xs)))

-- tests that agree on everything find the same element of a list
find_alike : {X : Type 0} (p q : X → Bool) → ((x : X) → p x ≡ q x) → (xs : List X) → find p xs ≡ find q xs
find_alike p q alike [] = refl
find_alike p q alike (x ∷ xs) = ap₂ (λ b found. cond b (Some x) found) (alike x) (find_alike p q alike xs)

-- ## Keys

-- one ordering and then another says equal exactly where both do
then_equal : (a b : Ordering) → is_eq (ordering_then a b) ≡ is_eq a && is_eq b
then_equal Less b = refl
then_equal Equal b = refl
then_equal Greater b = refl

-- two numbers compare as equal exactly where they are
numbers_equal : (m n : ℕ) → is_eq (nat_cmp m n) ≡ (m == n)
numbers_equal m n = grind (arith, tests)

-- two scopes have the same number exactly where they are the same scope
same_scopes : (s t : Scope) → (scope_key s == scope_key t) ≡ same_scope s t
same_scopes Classes Classes = refl
same_scopes Classes Functions = refl
same_scopes Classes (Labels g) = grind (arith, tests)
same_scopes Functions Classes = refl
same_scopes Functions Functions = refl
same_scopes Functions (Labels g) = grind (arith, tests)
same_scopes (Labels f) Classes = grind (arith, tests)
same_scopes (Labels f) Functions = grind (arith, tests)
same_scopes (Labels f) (Labels g) = grind (arith, tests)

-- a key is made of a scope's number and a name exactly where both are its own
key_parts : (scope : ℕ) (name : List ℕ) (key : Key) → is_key scope name key ≡ (scope == key.0) && bytes_eq name key.1.now
key_parts scope name key = then_equal (nat_cmp scope key.0) (slice_cmp nat_cmp name key.1.now)
    ∙ ap₂ (λ a b. a && b) (numbers_equal scope key.0) (is_eq-slice_cmp name key.1.now)

-- a definition has the key of a scope and a name exactly where it defines that name in that scope
keyed : (scope : Scope) (name : Bor (List ℕ)) (d : Definition) → is_key (scope_key d.scope) d.name (scope_key scope, name)
    ≡ defines scope name.now d
keyed scope name d = key_parts (scope_key d.scope) d.name (scope_key scope, name)
    ∙ ap (λ b. b && bytes_eq d.name name.now) (same_scopes d.scope scope)

-- ## The index

-- the first definition of a name is at its key's place
pub first_at : (ds : List Definition) (index : BTreeMap Key ℕ) → IsIndex ds index → (scope : Scope) (name : Bor (List ℕ)) (place : Option ℕ)
    → place_in index (scope_key scope, name) ≡ place → option_and_then (slice_get ds) place ≡ first_definition ds scope name.now
first_at ds index is scope name place e =
    ap (option_and_then (slice_get ds)) (sym e ∙ is (scope_key scope, name))
    ∙ at_place (λ d. is_key (scope_key d.scope) d.name (scope_key scope, name)) ds
    ∙ find_alike _ _ (keyed scope name) ds

-- one definition more, whose key is noted
pub index_more : (ds : List Definition) (d : Definition) (before after : BTreeMap Key ℕ) (one : Key) → one.0 ≡ scope_key d.scope
    → one.1.now ≡ d.name
    → IsIndex ds before → IsNoted before after one (length ds) → IsIndex (ds ++ d ∷ []) after
index_more ds d before after one scope name is noted key =
    noted key
    ∙ ap₂ (λ there b. option_or there (if b then Some (length ds) else None)) (is key)
    (ap₂ (λ number bytes. is_key number bytes key) scope name)
    ∙ sym (place_push (λ x. is_key (scope_key x.scope) x.name key) ds d)

-- ## Noting a key

-- two equal keys have the same place in the index
same_place : (index : BTreeMap Key ℕ) (one key : Key) → is_key one.0 one.1.now key ≡ true → place_in index key ≡ place_in index one
same_place index one key same =
    let parts : (one.0 ≡ key.0) × (bytes_eq one.1.now key.1.now ≡ true) = grind (arith, tests, same, key_parts one.0 one.1.now key) in
    ap₂ (λ scope name. lookup (is_at (key_cmp scope name)) index.entries) (sym parts.0)
    (sym ((bytes_decides one.1.now key.1.now).0 parts.1))

-- what is not taken leaves an option as it was
kept : (a b : Option ℕ) (taken : Bool) → taken ≡ false → a ≡ option_or a (if taken then b else None)
kept None b taken free = sym (ap (λ t. if t then b else None) free)
kept (Some n) b taken free = refl

-- where a key has a place already, the index stays as it is and the place counts as noted
pub noted_there : (index : BTreeMap Key ℕ) (one : Key) (place : ℕ) → is_some (place_in index one) ≡ true → IsNoted index index one place
noted_there index one place there key =
    ⊎_elim
    (λ same. has (place_in index key) (place_in index one) _ (same_place index one key same) there)
    (kept (place_in index key) (Some place) (is_key one.0 one.1.now key))
    (cases_Bool (is_key one.0 one.1.now key))
  where
    has : (a b c : Option ℕ) → a ≡ b → is_some b ≡ true → a ≡ option_or a c
    has a b c e some = grind (arith, e, some)

-- a key that had no place and is put into the index with one is noted there
pub noted_new : (before after : BTreeMap Key ℕ) (one : Key) (place : ℕ) → is_some (place_in before one) ≡ false
    → Updates (λ one other. key_cmp one.0 one.1.now other) before after one (Some place) → IsNoted before after one place
noted_new before after one place free updates key =
    updates.0 key ∙ ⊎_elim
    (λ same. put (place_in before key) (place_in before one) (is_key one.0 one.1.now key) same (same_place before one key same) free)
    (λ other. ap (λ taken. cond taken (Some place) (place_in before key)) other
    ∙ kept (place_in before key) (Some place) (is_key one.0 one.1.now key) other)
    (cases_Bool (is_key one.0 one.1.now key))
  where
    put : (a b : Option ℕ) (taken : Bool) → taken ≡ true → a ≡ b → is_some b ≡ false → cond taken (Some place) a
        ≡ option_or a (if taken then Some place else None)
    put a b taken same e none = grind (arith, same, e, none)
