-- Names: a letter, and then letters, digits and `_`.
use Rattle.std.specs.Prelude.{ℕ, List, [], ◌∷◌, Bool, false, ◌==◌, ◌&&◌, ◌||◌, nat_le, length, ◌-◌, Option, Some, None, take, slice_index, if◌then◌else◌}
use Rattle.std.specs.Char.{is_ascii_alphabetic, is_ascii_alphanumeric}
use Rattle.std.specs.List.{list_all}
use Rattle.gl_asm.specs.declared.limits.TheConstants.{NAME_TAIL}
use Rattle.gl_asm.specs.declared.names.TheConstants.{COLON, UNDERSCORE}

abbrev pub is_name_byte : ℕ → Bool
is_name_byte b = is_ascii_alphanumeric b || (b == UNDERSCORE)

abbrev pub is_name : List ℕ → Bool
is_name [] = false
is_name (b ∷ bs) = is_ascii_alphabetic b && nat_le (length bs) NAME_TAIL && list_all is_name_byte bs

-- what stands before the colon at the end of a word
abbrev pub label_of : List ℕ → Option (List ℕ)
label_of word = if slice_index word (length word - 1) == COLON then Some (take (length word - 1) word) else None
