use Rattle.std.proofs.Common.{sym, subst}
use Rattle.std.specs.Prelude.{◌↔◌, ◌||◌, IsTrue}
use Rattle.gl_lines.specs.TraceLaws.{Accesses}
use Rattle.gl_model.specs.declared.row.Item.{Item}
use Rattle.gl_explain.proofs.Sets.{in_either}
use Rattle.gl_explain.proofs.Truths.{either, same_test}
use Rattle.gl_explain.proofs.races.touches.Goals as goal

pub returns-in-Commit : goal.returns-in-Commit
returns-in-Commit c =
    let e = in_either c.in-Commit.reads c.in-Commit.writes c.args.var in
    subst (λ (i : Item). IsTrue (c.has-read.result || c.has-written.result) ↔ Accesses i c.args.var) (sym c.in-Commit.is)
    (same_test _ _ _ (either _ _ _ _ c.has-read.ensures c.has-written.ensures) e.1 e.0)
