use Rattle.std.proofs.Common.{true, false}
use Rattle.gl_raised.proofs.lasts.Lasts.note.Goals as goal

pub returns : goal.returns
returns c false false t = c.note_where.ensures t
returns c false true t = c.note_where-2.ensures t
returns c true false t = c.note_where-3.ensures t
returns c true true t = c.note_where-4.ensures t
