-- Where the first definition of each name is among the definitions.
use Rattle.std.specs.Prelude.{◌≡◌, ℕ, ◌+◌, List, Bool, Option, Some, None, if◌then◌else◌}
use Rattle.std.specs.List.{position}
use Rattle.std.specs.Option.{option_or}
use Rattle.std.specs.declared.cmp.Ordering.{Ordering}
use Rattle.std.specs.Ordering.{is_eq, nat_cmp, ordering_then}
use Rattle.std.specs.Cmp.Lexicographic.{slice_cmp}
use Rattle.std.specs.Borrow.{Bor}
use Rattle.std.specs.BTreeMap.{BTreeMap, get}
use Rattle.gl_asm.specs.declared.definitions.Definition.{Definition}
use Rattle.gl_asm.specs.declared.definitions.Scope.{Scope}
use Rattle.gl_asm.specs.declared.definitions.Scope.TheVariants.{Classes, Functions, Labels}

-- a scope as a number of its own
abbrev pub scope_key : Scope → ℕ
scope_key Classes = 0
scope_key Functions = 1
scope_key (Labels f) = f + 2

-- the number of a scope, and a name in it
abbrev pub Key : Type 0
Key = ℕ × Bor (List ℕ)

-- how these two compare to a key: by the scopes, and then by the names
abbrev pub key_cmp : ℕ → List ℕ → Key → Ordering
key_cmp scope name key = ordering_then (nat_cmp scope key.0) (slice_cmp nat_cmp name key.1.now)

-- whether the key is made of these two
abbrev pub is_key : ℕ → List ℕ → Key → Bool
is_key scope name key = is_eq (key_cmp scope name key)

-- the place that the index has for a key
abbrev pub place_in : BTreeMap Key ℕ → Key → Option ℕ
place_in index key = get (λ one other. key_cmp one.0 one.1.now other) index key

-- each key has the place of the first definition of its name
abbrev pub IsIndex : List Definition → BTreeMap Key ℕ → Type 0
IsIndex ds index = (key : Key) → place_in index key ≡ position (λ d. is_key (scope_key d.scope) d.name key) ds

-- one key has this place now, unless it had one, and the others have theirs
abbrev pub IsNoted : BTreeMap Key ℕ → BTreeMap Key ℕ → Key → ℕ → Type 0
IsNoted before after one place =
    (key : Key) → place_in after key ≡ option_or (place_in before key) (if is_key one.0 one.1.now key then Some place else None)
