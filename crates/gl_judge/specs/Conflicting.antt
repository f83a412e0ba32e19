-- Which Infos of a row conflict with a question.
use Rattle.std.specs.Prelude.{◌≡◌, ℕ, true, false, Some, None, ◌⊎◌}
use Rattle.gl_model.specs.declared.row.Info.{Info}
use Rattle.gl_model.specs.declared.row.Row.{Row}
use Rattle.gl_model.specs.declared.row.Question.{Question}
use Rattle.gl_draws.specs.RowFacts.{read_of}

-- the row keeps the Info
abbrev pub Keeps : Row → Info → Type 0
Keeps row i = (row.last_write ≡ Some i) ⊎ ((t : ℕ) × (read_of row.reads t ≡ Some i))

-- at least one of the two accesses writes, and at least one is no commit
abbrev pub Conflicts : Info → Question → Type 0
Conflicts i q = ((i.write ≡ true) ⊎ (q.write ≡ true)) × ((i.commit ≡ false) ⊎ (q.commit ≡ None))
