use Rattle.std.proofs.Common.{FitsSigned, w64, rules}
use Rattle.std.proofs.lemmas.Int.{to_z-of_z}
use Rattle.gl_table.proofs.Doing.{may_put_told}
use Rattle.gl_events.proofs.event.announce.Goals as goal

pub put_list-requires-clause-may : goal.put_list-requires-clause-may
put_list-requires-clause-may c =
    let fits : FitsSigned w64 c.args.plan.now.value = search rules in
    let is = simp to_z-of_z at c.publish-at.ensures.published in
    may_put_told c.args.shared.now.key c.args.shared.now.key.setting c.args.pass.now c.args.plan.now.act c.args.plan.now.value c.args.state
    c.publish-at.result c.publish-at.new.pass c.requires.may is
