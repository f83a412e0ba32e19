-- A row that its box lends.
use Rattle.std.specs.Borrow.{Lends, MutBor, Fml}
use Rattle.gl_model.specs.contracts.row.Row as row
use Rattle.gl_model.specs.declared.row.Row.{Row}
use Rattle.gl_state.specs.contracts.kept.KeptRow as kept

-- what is last written through r is the row that is kept
abbrev pub LendsRow : MutBor Row → MutBor Row → Fml
LendsRow rows r = Lends kept.the_row row.the_row rows r (λ x. x)
