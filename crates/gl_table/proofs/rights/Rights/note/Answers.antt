use Rattle.std.proofs.Common.{sym, ap, ◌∙◌, inl, inr}
use Rattle.gl_model.specs.Entries.{seen}
use Rattle.gl_table.specs.RightOf.{rights_after}
use Rattle.gl_table.proofs.rights.Rights.note.Goals as goal

pub returns-in-Sync-clause-rights : goal.returns-in-Sync-clause-rights
returns-in-Sync-clause-rights c = elim c.in-Sync.is [
  | inl w ↦ c.take.ensures.rights ∙ sym (ap (λ e. rights_after c.args.self.now.rights (seen e)) w.3)
  | inr (inl w) ↦ c.take.ensures.rights ∙ sym (ap (λ e. rights_after c.args.self.now.rights (seen e)) w.2)
  | inr (inr w) ↦ c.take.ensures.rights ∙ sym (ap (λ e. rights_after c.args.self.now.rights (seen e)) w.2)
]
