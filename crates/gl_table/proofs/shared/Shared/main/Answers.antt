use Rattle.std.proofs.Common.{subst}
use Rattle.std.specs.Prelude.{ℕ, ◌<◌, Contains}
use Rattle.std.proofs.lemmas.List.Elements.{All-contains}
use Rattle.gl_model.specs.declared.limits.TheConstants.{FUNCTIONS}
use Rattle.gl_table.specs.TableView.{TableView}
use Rattle.gl_table.proofs.shared.Shared.main.Goals as goal

pub returns-clause-forkable : goal.returns-clause-forkable
returns-clause-forkable c =
    subst (λ (v : TableView). (f : ℕ) → Contains v.key.setting.forkable f → f < FUNCTIONS) c.self.view_is
    (λ f has. All-contains (λ f. f < FUNCTIONS) c.self.inside.layout.starts.items f c.self.invariant.starts has)
