use Rattle.std.proofs.Common.{refl}
use Rattle.gl_trace.proofs.IdsLemmas.{put_whole}
use Rattle.gl_trace.proofs.ids.ids.Goals as goal

pub loop-part-init : goal.loop-part-init
loop-part-init c = (rw (c.empty.ensures, c.list_parts-parts.ensures) (put_whole c.args.word.now), rw c.empty.ensures refl)
