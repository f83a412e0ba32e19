-- What a summary has of one entry.
use Rattle.std.specs.Prelude.{ℤ, List, Option}
use Rattle.std.specs.Option.{option_map}
use Rattle.gl_model.specs.Entries.{Entry}
use Rattle.gl_model.specs.Report.{entry_prints}

-- what the entry in a slot prints, if there is one and it does
abbrev pub prints_at : {A : Type 0} → (A → Entry) → Option A → List ℤ
prints_at v slot = entry_prints (option_map v slot)
