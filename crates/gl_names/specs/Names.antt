-- Names that comment lines give. A line names one thing where it begins with a `#`, behind which stand three words: what the thing is
-- (`thread`, `monitor`, `volatile` or `var`), its number, and the name. A second `#` begins a comment there too. Any other line is a mere
-- comment.
use Rattle.std.specs.Prelude.{ℕ, List, [], ◌∷◌, Bool, Option, Some, None, ◌&&◌, ◌==◌, not, nat_lt, nat_le, length, bytes_eq, codes, if◌then◌else◌, option_and_then}
use Rattle.std.specs.Option.{option_map, option_or}
use Rattle.std.specs.Str.Lines.{lines}
use Rattle.gl_model.specs.declared.limits.TheConstants.{THREADS, MONITORS, VOLATILES, VARIABLES}
use Rattle.gl_text.specs.Number.{magnitude_of}
use Rattle.gl_text.specs.Text.{is_bad, is_hash, words}
use Rattle.gl_names.specs.declared.kind.Kind.{Kind}
use Rattle.gl_names.specs.declared.kind.Kind.TheVariants.{Thread, Monitor, Volatile, Variable}
use Rattle.gl_names.specs.declared.kind.TheConstants.{NAME_BYTES}

-- the word that says what is named
abbrev pub word_of : Kind → List ℕ
word_of Thread = codes "thread"
word_of Monitor = codes "monitor"
word_of Volatile = codes "volatile"
word_of Variable = codes "var"

-- how many there are of each kind
abbrev pub count_of : Kind → ℕ
count_of Thread = THREADS
count_of Monitor = MONITORS
count_of Volatile = VOLATILES
count_of Variable = VARIABLES

-- the number of one of the kind
abbrev pub id_of : Kind → List ℕ → Option ℕ
id_of kind word = option_and_then (λ n. if nat_lt n (count_of kind) then Some n else None) (magnitude_of word)

-- a word that is a name: not too long, and of bytes that a line may have
abbrev pub is_name : List ℕ → Bool
is_name word = nat_le (length word) NAME_BYTES && not (is_bad word)

-- the number and the name that these words give to one of the kind
abbrev pub named_by : Kind → List (List ℕ) → Option (ℕ × List ℕ)
named_by kind [] = None
named_by kind (what ∷ []) = None
named_by kind (what ∷ number ∷ []) = None
named_by kind (what ∷ number ∷ name ∷ []) =
    if bytes_eq what (word_of kind) && is_name name then option_map (λ id. (id, name)) (id_of kind number) else None
named_by kind (what ∷ number ∷ name ∷ more ∷ rest) = None

-- the number and the name that a line gives to one of the kind
abbrev pub named : Kind → List ℕ → Option (ℕ × List ℕ)
named kind [] = None
named kind (b ∷ rest) = if is_hash b then named_by kind (words rest) else None

-- the name where it is given to this number
abbrev pub given : ℕ → Option (ℕ × List ℕ) → Option (List ℕ)
given id None = None
given id (Some n) = if n.0 == id then Some n.1 else None

-- the name that a line gives to this one of the kind
abbrev pub naming : Kind → ℕ → List ℕ → Option (List ℕ)
naming kind id line = given id (named kind line)

-- the name that the first of the lines that name it gives to this one of the kind
abbrev pub name_in : Kind → ℕ → List (List ℕ) → Option (List ℕ)
name_in kind id [] = None
name_in kind id (line ∷ rest) = option_or (naming kind id line) (name_in kind id rest)

-- the names of the things of each kind, by their numbers
abbrev pub Naming : Type 0
Naming = Kind → ℕ → Option (List ℕ)

-- the names that a text gives
abbrev pub name_of : List ℕ → Naming
name_of text kind id = name_in kind id (lines text)
