use Rattle.std.proofs.Common.{ap, not, ne_eqb, arith}
use Rattle.gl_table.proofs.shared.Shared.stopped.Goals as goal

pub returns-clause-risen : goal.returns-clause-risen
returns-clause-risen c = λ m has some. ap not
    (ne_eqb c.see_stop.result 0 (λ e. some (let le = c.see_stop.ensures.risen m has in omega arith)))
