-- The lists of a transaction: their parts, and whether they are sets.
use Rattle.std.specs.Prelude.{ℕ, pos, ◌-◌, List, [], ◌∷◌, length, Bool, true, ◌==◌, ◌&&◌, nat_lt, nat_le, Option, Some, None, Result, Ok, bytes_eq, codes, if◌then◌else◌}
use Rattle.std.specs.Borrow.{Bor}
use Rattle.std.specs.List.{slice_split, list_all}
use Rattle.gl_model.specs.declared.limits.TheConstants.{TX_VARIABLES, VARIABLES}
use Rattle.gl_model.specs.declared.tx.Look.{Look}
use Rattle.gl_model.specs.declared.tx.Pair.{Pair}
use Rattle.gl_model.specs.declared.tx.Number.{Number}
use Rattle.gl_text.specs.declared.kinds.TheConstants.{BAD_NUMBER}
use Rattle.gl_journal.specs.declared.limits.TheConstants.{MOST_STAMP}
use Rattle.gl_journal.specs.declared.parts.TheConstants.{COLON, COMMA}
use Rattle.gl_journal.specs.declared.parts.Part.{Part}
use Rattle.gl_journal.specs.declared.parts.PartForm.{PartForm}
use Rattle.gl_journal.specs.declared.parts.PartForm.TheVariants as forms
use Rattle.gl_journal.specs.Fields.{Word, ◌>>=◌, first_of, rest_of, none_of, natural_in, value_in}

abbrev pub is_byte : ℕ → ℕ → Bool
is_byte separator b = b == separator

abbrev pub pieces_left : ℕ → Option (Bor (List ℕ)) → List Word
pieces_left separator None = []
pieces_left separator (Some text) = slice_split (is_byte separator) text.now

-- a look: its variable, its value and its number
unfoldable pub look_in : List Word → Result Part ℕ
look_in pieces = do
  first ← first_of BAD_NUMBER pieces
  var ← natural_in (VARIABLES - 1) first
  second ← first_of BAD_NUMBER (rest_of pieces)
  value ← value_in second
  third ← first_of BAD_NUMBER (rest_of (rest_of pieces))
  nth ← natural_in MOST_STAMP third
  end ← none_of BAD_NUMBER (rest_of (rest_of (rest_of pieces)))
  Ok (record { var = var; value = value; nth = nth })

-- a write: its variable and its value
unfoldable pub pair_in : List Word → Result Part ℕ
pair_in pieces = do
  first ← first_of BAD_NUMBER pieces
  var ← natural_in (VARIABLES - 1) first
  second ← first_of BAD_NUMBER (rest_of pieces)
  value ← value_in second
  end ← none_of BAD_NUMBER (rest_of (rest_of pieces))
  Ok (record { var = var; value = value; nth = 0 })

-- a number: its variable and the number
unfoldable pub number_in : List Word → Result Part ℕ
number_in pieces = do
  first ← first_of BAD_NUMBER pieces
  var ← natural_in (VARIABLES - 1) first
  second ← first_of BAD_NUMBER (rest_of pieces)
  nth ← natural_in MOST_STAMP second
  end ← none_of BAD_NUMBER (rest_of (rest_of pieces))
  Ok (record { var = var; value = pos 0; nth = nth })

abbrev pub pieces_in : PartForm → List Word → Result Part ℕ
pieces_in forms.Look pieces = look_in pieces
pieces_in forms.Pair pieces = pair_in pieces
pieces_in forms.Number pieces = number_in pieces

-- a part of such a list
abbrev pub part_in : PartForm → Word → Result Part ℕ
part_in form piece = pieces_in form (slice_split (is_byte COLON) piece)

abbrev pub parts_in : PartForm → List Word → Result (List Part) ℕ
parts_in form [] = Ok []
parts_in form (w ∷ ws) = part_in form w >>= (λ p. parts_in form ws >>= (λ ps. Ok (p ∷ ps)))

-- the parts of a list: none where it is a minus, else what stands between its commas
abbrev pub list_pieces : Word → List Word
list_pieces word = if bytes_eq word (codes "-") then [] else slice_split (is_byte COMMA) word

abbrev pub list_in : PartForm → Word → Result (List Part) ℕ
list_in form word = parts_in form (list_pieces word)

-- each part's variable is below those of all parts behind it
abbrev pub rises : List Part → Bool
rises [] = true
rises (p ∷ ps) = list_all (λ q. nat_lt p.var q.var) ps && rises ps

-- they rise by variable, and are no more than a transaction may have
abbrev pub is_set : List Part → Bool
is_set parts = nat_le (length parts) TX_VARIABLES && rises parts

abbrev pub look_of : Part → Look
look_of p = record { var = p.var; value = p.value; nth = p.nth }

abbrev pub pair_of : Part → Pair
pair_of p = record { var = p.var; value = p.value }

abbrev pub number_of : Part → Number
number_of p = record { var = p.var; nth = p.nth }
