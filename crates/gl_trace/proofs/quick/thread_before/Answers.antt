use Rattle.std.proofs.Common.{refl}
use Rattle.std.specs.Prelude.{codes}
use Rattle.gl_trace.proofs.quick.thread_before.Goals as goal

pub returns-in-Some : goal.returns-in-Some
returns-in-Some c = (codes "fork", record { whole = c.in-Some.ensures; is_word = (refl, refl) }, refl)

pub returns : goal.returns
returns c = (codes "join", record { whole = c.in_ok-rest.ensures; is_word = (refl, refl) }, refl)
