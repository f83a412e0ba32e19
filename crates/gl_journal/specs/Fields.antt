-- The words of a line, each in its place: what it says, or the kind of the fault.
use Rattle.std.specs.Prelude.{ℕ, ℤ, pos, negsuc, List, [], ◌∷◌, Bool, true, false, Option, Some, None, Result, Ok, Err, bytes_eq, if◌then◌else◌}
use Rattle.gl_text.specs.Number.{number_of}
use Rattle.gl_text.specs.declared.kinds.TheConstants.{BAD_NUMBER}
use Rattle.gl_journal.specs.declared.limits.TheConstants.{LEAST_VALUE, MOST_VALUE}

abbrev pub Word : Type 0
Word = List ℕ

infixl 10 ◌>>=◌
abbrev pub ◌>>=◌ : {A B E : Type 0} → Result A E → (A → Result B E) → Result B E
(Ok x) >>= f = f x
(Err kind) >>= f = Err kind

-- the first of some words; where there is none, the fault is of this kind
abbrev pub first_of : ℕ → List Word → Result Word ℕ
first_of kind [] = Err kind
first_of kind (w ∷ ws) = Ok w

abbrev pub rest_of : List Word → List Word
rest_of [] = []
rest_of (w ∷ ws) = ws

-- no word is left
abbrev pub none_of : ℕ → List Word → Result (Unit {0}) ℕ
none_of kind [] = Ok tt
none_of kind (w ∷ ws) = Err kind

abbrev pub not_negative : Option ℤ → Result ℕ ℕ
not_negative None = Err BAD_NUMBER
not_negative (Some (pos n)) = Ok n
not_negative (Some (negsuc n)) = Err BAD_NUMBER

-- a number from 0 to most
abbrev pub natural_in : ℕ → Word → Result ℕ ℕ
natural_in most word = not_negative (number_of (pos 0) (pos most) word)

abbrev pub found : Option ℤ → Result ℤ ℕ
found None = Err BAD_NUMBER
found (Some z) = Ok z

-- any value
abbrev pub value_in : Word → Result ℤ ℕ
value_in word = found (number_of LEAST_VALUE MOST_VALUE word)

-- a word that has to stand where it stands
abbrev pub told : ℕ → Word → Word → Result (Unit {0}) ℕ
told kind expected word = if bytes_eq word expected then Ok tt else Err kind

-- one of two words: whether it is the second
abbrev pub choice_in : Word → Word → Word → Result Bool ℕ
choice_in first second word = if bytes_eq word first then Ok false else if bytes_eq word second then Ok true else Err BAD_NUMBER
