use Rattle.std.proofs.Common.{◌∙◌, ap, map}
use Rattle.gl_model.specs.Entries.{seen, Sync}
use Rattle.gl_acts.proofs.Keeping.{forks}
use Rattle.gl_acts.proofs.fault.has_forked.Goals as goal

pub returns-in-Fork : goal.returns-in-Fork
returns-in-Fork c =
    let is = ap seen c.in-Sync.is ∙ ap (λ a. Sync c.in-Sync.at a c.in-Sync.value) c.in-Fork.is in
    forks (λ es. map seen es.now) c.args.made.now c.keeps.ensures.1 (seen c.args.entry.now)
    c.in-Sync.at c.in-Fork.child c.in-Fork.func c.in-Sync.value is c.thread.result c.thread.ensures c.is_some.result c.is_some.ensures
