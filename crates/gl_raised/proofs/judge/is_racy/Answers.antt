use Rattle.std.proofs.lemmas.Option.{slice_get-get_or}
use Rattle.gl_raised.proofs.Lasting.{racy_means}
use Rattle.gl_raised.proofs.judge.is_racy.Goals as goal

pub returns : goal.returns
returns c us i threads know =
    let a = c.args.access.now in
    racy_means c.args.known.now us i a c.args.lasts.now _ c.fails.result (slice_get-get_or c.args.lasts.now a.var _ c.requires.variable)
    threads know c.fails.ensures
