use Rattle.std.proofs.Common.{◌≡◌, ◌<◌, ◌∙◌, ap, sym, subst, map}
use Rattle.std.specs.Prelude.{◌⊎◌, ◌↔◌}
use Rattle.gl_core.specs.Cells.{at, cell}
use Rattle.gl_model.specs.Entries.{seen}
use Rattle.gl_model.specs.declared.tx.Tx.{Tx}
use Rattle.gl_causes.specs.Learning.{IsLearned, refused_numbers}
use Rattle.gl_causes.specs.Stands.{stand_seen}
use Rattle.gl_causes.proofs.learn.known_at.Goals as goal

pub returns-in-Abort : goal.returns-in-Abort
returns-in-Abort c u n =
    let rows = c.args.rows.now in
    let stands = map stand_seen c.args.stands.now in
    let are : refused_numbers (seen c.args.entry.now) ≡ c.deref.result.now.numbers = ap (λ e. refused_numbers (seen e)) c.in-Abort.is
    ∙ ap (λ (t : Tx). t.numbers) (sym c.deref.ensures) in
    subst (λ ns. (n < at c.learn.new.known u) ↔ ((n < cell rows c.args.block u) ⊎ IsLearned rows stands ns u n)) (sym are)
    (subst (λ z. (n < at c.learn.new.known u) ↔ ((n < z) ⊎ IsLearned rows stands c.deref.result.now.numbers u n))
    (c.clock_at-known.ensures u) (c.learn.ensures u n))
