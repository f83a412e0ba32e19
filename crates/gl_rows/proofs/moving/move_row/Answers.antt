use Rattle.std.proofs.Common.{inl, inr}
use Rattle.gl_rows.proofs.moving.move_row.Goals as goal

pub move_kept-requires-clause-behind : goal.move_kept-requires-clause-behind
move_kept-requires-clause-behind c = λ i e. c.requires.behind i (inl e)

pub move_reads-requires-clause-behind : goal.move_reads-requires-clause-behind
move_reads-requires-clause-behind c = λ t i e. c.requires.behind i (inr (t, e))
