use Rattle.std.proofs.Common.{None, subst}
use Rattle.gl_places.specs.Places.{seen}
use Rattle.gl_causes.specs.Handing.{IsHanded}
use Rattle.gl_pages.specs.LawfulRun.{LawfulRun, lists_in, run_of}
use Rattle.gl_pages.proofs.run.Run.handed.Goals as goal

pub returns-in-None : goal.returns-in-None
returns-in-None c =
    subst (λ (r : LawfulRun). IsHanded (lists_in r) (seen c.args.place) None) c.self.view_is
    (subst (IsHanded (lists_in (run_of c.self.inside.text.now c.self.inside.audited.now)) (seen c.args.place)) c.in-None.is
    c.first_handing.ensures)
