use Rattle.gl_model.proofs.Merged.{all_below}
use Rattle.gl_model.proofs.rising.place_in.Goals as goal

pub returns-then-ids-len-clause-below : goal.returns-then-ids-len-clause-below
returns-then-ids-len-clause-below c = all_below c.args.ids.now c.args.x c.requires c.if-ids-len.true
