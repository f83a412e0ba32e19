use Rattle.std.proofs.Common.{◌∙◌, ap, Bool}
use Rattle.std.specs.Prelude.{is_some}
use Rattle.gl_txn.proofs.Races.{is_written}
use Rattle.gl_txn.proofs.racing.question.Goals as goal

pub returns : goal.returns
returns c = ap (λ (b : Bool). record c.args.base.now { write = b }) (c.is_some.ensures ∙ ap is_some c.of.ensures
    ∙ is_written c.args.var c.args.writes.now)
