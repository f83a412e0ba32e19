use Rattle.std.proofs.Common.{refl}
use Rattle.std.specs.Prelude.{codes}
use Rattle.gl_trace.proofs.quick.set_before.Goals as goal

pub returns-in-Some : goal.returns-in-Some
returns-in-Some c = (
  codes "-",
  record { whole = c.in-Some.ensures; is_word = (refl, refl) },
  rw c.empty.ensures refl,
  rw c.empty.ensures
      refl,
)
