-- What made each entry of a record.
use Rattle.std.specs.Prelude.{ℕ, List, [], slice_index_or, slice_get, Option}
use Rattle.gl_model.specs.Records.{Lists, Place}
use Rattle.gl_bytecode.specs.Programs.{Bytecode}
use Rattle.gl_sites.specs.declared.making.Maker.{Maker}
use Rattle.gl_sites.specs.Makers.{AreMakers}

-- these made the entries of the record, by thread and then by place
abbrev pub AreMakersOf : Bytecode → ℕ → Lists → List (List Maker) → Type 0
AreMakersOf P steps R makers = (t : ℕ) → AreMakers P steps t (R t) (slice_index_or makers t [])

-- what made the entry there
abbrev pub maker_at : List (List Maker) → Place → Option Maker
maker_at makers c = slice_get (slice_index_or makers c.thread []) c.index
