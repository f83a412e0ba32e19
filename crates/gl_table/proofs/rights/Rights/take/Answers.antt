use Rattle.std.proofs.Common.{None, Option, Bool, ℕ, replicate, ap, ◌∙◌}
use Rattle.gl_table.proofs.RightsKept.{none_begun}
use Rattle.gl_table.proofs.rights.Rights.take.Goals as goal

pub returns-clause-rights : goal.returns-clause-rights
returns-clause-rights c =
    let i = c.self.invariant in
    none_begun c.self.inside.block c.self.inside.places.items i.begun ∙ ap (λ n. replicate {A = Option (ℕ × Bool)} n None) i.long
