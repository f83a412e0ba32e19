use Rattle.gl_draws.proofs.EntryKinds.{is_in-contains, contains-is_in}
use Rattle.gl_model.specs.Trace.{is_in}
use Rattle.gl_reference.proofs.Unions.{same_bool}
use Rattle.gl_compare.proofs.rows.writes_to.Goals as goal

pub returns : goal.returns
returns c = same_bool c.has.result (is_in c.args.var c.args.writes.now) (
  λ e. contains-is_in c.args.var c.args.writes.now (c.has.ensures.0 e),
  λ e. c.has.ensures.1
      (is_in-contains c.args.var c.args.writes.now e),
)
