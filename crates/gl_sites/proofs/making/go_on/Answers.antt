use Rattle.std.proofs.Common.{◌≡◌, Some, sym}
use Rattle.std.specs.Prelude.{slice_get}
use Rattle.gl_sites.proofs.MadeBy.{passes_by}
use Rattle.gl_sites.proofs.making.go_on.Goals as goal

pub returns-then-passes-clause-turned : goal.returns-then-passes-clause-turned
returns-then-passes-clause-turned c =
    let there : slice_get c.args.rest.now 0 ≡ Some c.in-Some.entry.now = sym c.in-Some.ensures.value in
    passes_by c.args.program.now c.args.replay.now c.goes_quietly.new.self c.passes.new.self c.args.rest.now c.in-Some.entry.now
    c.site-site.result c.maker_of.result there c.if-goes_quietly.ensures.moved c.site-site.ensures c.if-passes.ensures.moved
    c.maker_of.ensures
