use Rattle.std.proofs.Common.{sym}
use Rattle.gl_form.proofs.Parted.{after_found, after_none}
use Rattle.gl_form.proofs.alone.stands_after.Goals as goal

pub returns-in-Some : goal.returns-in-Some
returns-in-Some c = after_found c.args.looks.now c.args.var c.keeps.ensures.1 c.in-Some.look (sym c.in-Some.ensures) c.args.nth

pub returns-in-None : goal.returns-in-None
returns-in-None c = after_none c.args.looks.now c.args.var (sym c.in-None.ensures) c.args.nth
