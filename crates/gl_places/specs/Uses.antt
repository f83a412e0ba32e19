-- The numbers that the entries of a record have, each with the place of its entry; and where such numbers fail to be those below their
-- count, each once.
use Rattle.std.specs.Prelude.{◌≡◌, ℕ, ◌+◌, ◌<◌, ◌≤◌, ◌⊎◌, List, [], ◌∷◌, ◌++◌, length, map, slice_get, Option, Some, None}
use Rattle.gl_model.specs.Entries.{Entry}
use Rattle.gl_model.specs.Records.{Place, position_of}
use Rattle.gl_places.specs.declared.uses.Use.{Use as StoredUse}
use Rattle.gl_places.specs.Places.{seen}

-- a place, and a number that its entry has
abbrev pub Use : Type 0
Use = Place × ℕ

-- a use of the program, as definitions see it
abbrev pub use_seen : StoredUse → Use
use_seen u = (seen u.place, u.number)

-- of the entries of thread t from place i on: the numbers that each has
abbrev pub uses_from : (Entry → List ℕ) → ℕ → ℕ → List Entry → List Use
uses_from numbers t i [] = []
uses_from numbers t i (e ∷ es) = map (λ k. (record { thread = t; index = i }, k)) (numbers e) ++ uses_from numbers t (i + 1) es

-- of the entries of a record: by thread, and then by place
abbrev pub uses_of : (Entry → List ℕ) → List (ℕ × List Entry) → List Use
uses_of numbers [] = []
uses_of numbers (l ∷ ls) = uses_from numbers l.0 0 l.1 ++ uses_of numbers ls

-- the number that an entry has, if it has one
abbrev pub one_or_none : Option ℕ → List ℕ
one_or_none None = []
one_or_none (Some k) = k ∷ []

-- the position of an entry in the list of events, if it is an event
abbrev pub positions_on : Entry → List ℕ
positions_on e = one_or_none (position_of e)

-- the positions of a record
abbrev pub positions_of : List (ℕ × List Entry) → List Use
positions_of made = uses_of positions_on made

abbrev pub numbers_in : List Use → List ℕ
numbers_in us = map (λ u. u.1) us

-- the number at k is not below how many there are, or stands before k too
pub record IsWrongAt (ns : List ℕ) (k : ℕ) : Type 0 where
  pub number : ℕ
  pub there : slice_get ns k ≡ Some number
  pub wrong : (length ns ≤ number) ⊎ ((j : ℕ) × (j < k) × (slice_get ns j ≡ Some number))

-- a number of the entry at c is wrong there
pub record UseFailsAt (us : List Use) (c : Place) : Type 0 where
  pub number : ℕ
  pub index : ℕ
  pub there : slice_get us index ≡ Some (c, number)
  pub wrong : IsWrongAt (numbers_in us) index

-- the entry at c has a position that is not below how many events there are, or that an earlier one has
abbrev pub PositionFailsAt : List (ℕ × List Entry) → Place → Type 0
PositionFailsAt made c = UseFailsAt (positions_of made) c
