use Rattle.std.proofs.Common.{map, sym, ap, ◌∙◌}
use Rattle.gl_model.specs.Entries.{seen}
use Rattle.gl_table.specs.RightOf.{right_of}
use Rattle.gl_table.specs.Stored.{Stored}
use Rattle.gl_table.proofs.RightsKept.{right_far}
use Rattle.gl_table.proofs.own_list.OwnList.right.Goals as goal

pub returns-then-var-ge-VARIABLES : goal.returns-then-var-ge-VARIABLES
returns-then-var-ge-VARIABLES c = sym (right_far c.args.var (map seen c.self.inside.list.items) c.if-var-ge-VARIABLES.true
    c.self.invariant.kept) ∙ ap (λ (s : Stored). right_of s.entries c.args.var) c.self.view_is

pub returns : goal.returns
returns c = c.on.ensures ∙ c.self.invariant.rights c.args.var c.if-var-ge-VARIABLES.false
    ∙ ap (λ (s : Stored). right_of s.entries c.args.var) c.self.view_is
