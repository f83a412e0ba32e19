use Rattle.std.proofs.Common.{nat_lt, sym, ap, ◌∙◌}
use Rattle.gl_model.specs.declared.limits.TheConstants.{TX_VARIABLES}
use Rattle.gl_follow.specs.Words.{size_of}
use Rattle.gl_follow.proofs.WordLemmas.{size_all}
use Rattle.gl_follow.proofs.words.Words.has_room.Goals as goal

pub returns : goal.returns
returns c =
    let size = size_all c.self.inside.looks c.self.inside.writes c.self.inside.all c.self.invariant in
    ap (λ n. nat_lt n TX_VARIABLES) (c.len.ensures.count ∙ sym size ∙ ap size_of c.self.view_is)
