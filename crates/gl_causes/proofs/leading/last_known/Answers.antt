use Rattle.std.proofs.Common.{None, map, subst, sym}
use Rattle.gl_model.specs.Entries.{seen}
use Rattle.gl_causes.specs.Leading.{IsLastPassed}
use Rattle.gl_causes.proofs.Handings.{listed}
use Rattle.gl_causes.proofs.leading.last_known.Goals as goal

pub returns-in-None : goal.returns-in-None
returns-in-None c =
    let list = c.in_ok-list.list.now in
    let n = c.args.known in
    subst (λ es. IsLastPassed es n None) (sym (listed c.args.made.now c.args.thread list c.in_ok-list.ensures))
    (subst (IsLastPassed (map seen list) n) c.in-None.is c.last_passed.ensures)
