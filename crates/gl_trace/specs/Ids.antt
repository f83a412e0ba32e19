-- Numbers of a line, and the lists of variables of a commit.
use Rattle.std.specs.Prelude.{ℕ, ℤ, pos, negsuc, ◌-◌, List, [], ◌∷◌, length, Option, Some, None, Result, Ok, Err, Bool, true, ◌==◌, ◌&&◌, nat_lt, nat_le, bytes_eq, codes, if◌then◌else◌}
use Rattle.std.specs.List.{slice_split, list_all}
use Rattle.gl_model.specs.declared.limits.TheConstants.{VARIABLES, TX_VARIABLES}
use Rattle.gl_text.specs.Number.{number_of}
use Rattle.gl_text.specs.declared.kinds.TheConstants.{BAD_NUMBER}

abbrev pub not_negative : Option ℤ → Result ℕ ℕ
not_negative None = Err BAD_NUMBER
not_negative (Some (pos n)) = Ok n
not_negative (Some (negsuc n)) = Err BAD_NUMBER

-- a number from 0 to most
abbrev pub operand_of : ℕ → List ℕ → Result ℕ ℕ
operand_of most word = not_negative (number_of (pos 0) (pos most) word)

-- the words of a list: none where it is a minus, else the parts between its commas
abbrev pub is_comma : ℕ → Bool
is_comma b = b == 44

abbrev pub list_words : List ℕ → List (List ℕ)
list_words word = if bytes_eq word (codes "-") then [] else slice_split is_comma word

-- the variables that the words name
abbrev pub with_first : Result ℕ ℕ → Result (List ℕ) ℕ → Result (List ℕ) ℕ
with_first (Err kind) rest = Err kind
with_first (Ok n) (Err kind) = Err kind
with_first (Ok n) (Ok ns) = Ok (n ∷ ns)

abbrev pub ids_of : List (List ℕ) → Result (List ℕ) ℕ
ids_of [] = Ok []
ids_of (w ∷ ws) = with_first (operand_of (VARIABLES - 1) w) (ids_of ws)

-- each number is below all behind it
abbrev pub rises : List ℕ → Bool
rises [] = true
rises (x ∷ xs) = list_all (λ y. nat_lt x y) xs && rises xs

-- they rise strictly, and are no more than a transaction may have
abbrev pub is_set : List ℕ → Bool
is_set ids = rises ids && nat_le (length ids) TX_VARIABLES

abbrev pub as_set : List ℕ → Option (List ℕ)
as_set ids = if is_set ids then Some ids else None

abbrev pub kept_set : Result (List ℕ) ℕ → Result (Option (List ℕ)) ℕ
kept_set (Err kind) = Err kind
kept_set (Ok ids) = Ok (as_set ids)

-- what a list says: a set of variables, no set, or the kind of a fault in its numbers
abbrev pub set_of : List ℕ → Result (Option (List ℕ)) ℕ
set_of word = kept_set (ids_of (list_words word))
