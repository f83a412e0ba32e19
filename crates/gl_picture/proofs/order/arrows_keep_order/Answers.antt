use Rattle.gl_picture.proofs.Keeping.{order_kept}
use Rattle.gl_picture.proofs.order.arrows_keep_order.Goals as goal

pub returns : goal.returns
returns c = order_kept
