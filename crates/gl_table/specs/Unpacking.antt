-- The event that the words of a cell stand for.
use Rattle.std.specs.Prelude.{◌≡◌, ℕ, ◌+◌, ◌/◌, ◌%◌, ◌<◌, ◌==◌, if◌then◌else◌, List, length, slice_index, slice_index_or}
use Rattle.gl_model.specs.declared.event.Act.{Act}
use Rattle.gl_model.specs.declared.event.Act.TheVariants.{Begin, End, Acq, Rel, VRead, VWrite, Fork, Join, Alloc, Print, Input, Fail}
use Rattle.gl_model.specs.Kept.{AreVariables}

-- the act of this kind with this argument
abbrev pub act_at : ℕ → ℕ → Act
act_at kind arg =
    if kind == 1 then Begin arg else if kind == 2 then End else if kind == 3 then Acq arg else if kind == 4 then Rel arg else if kind == 5
    then VRead arg else if kind == 6 then VWrite arg
    else if kind == 7 then Fork (arg % 16) (arg / 16) else if kind == 8 then Join (arg % 256) else if kind == 9 then Alloc arg
    else if kind == 10 then Print else if kind == 11 then Input else Fail (arg % 256)

-- the id at place r of a word that has four
abbrev pub part_of : ℕ → ℕ → ℕ
part_of r word = if r == 0 then word % 65536 else if r == 1 then word / 65536 % 65536 else if r == 2 then word / 4294967296 % 65536
    else word / 281474976710656 % 65536

-- the id at place j of a commit
abbrev pub id_in : List ℕ → ℕ → ℕ
id_in words j = part_of (j % 4) (slice_index words (1 + j / 4))

-- the words have these ids, one after another
pub record HaveIds (words : List ℕ) (xs : List ℕ) : Type 0 where
  pub variables : AreVariables xs
  pub ids : (j : ℕ) → j < length xs → id_in words j ≡ slice_index_or xs j 0
