use Rattle.std.proofs.Common.{◌≡◌, rules}
use Rattle.gl_model.specs.declared.event.Act.TheVariants.{Begin}
use Rattle.gl_acts.proofs.Applied.{begun}
use Rattle.gl_acts.proofs.apply.begin.Goals as goal

pub returns : goal.returns
returns c setting =
    let same : c.args.argument ≡ c.args.by.value = search rules in
    let begins : c.args.act ≡ Begin c.args.func = search rules in
    begun setting c.args.by.thread c.args.func c.args.argument c.args.by.value c.args.act c.args.state.now c.begin.new.self
    c.begin.ensures.near c.requires.forked begins same c.begin.ensures.is
