use Rattle.std.proofs.Common.{arith, subst}
use Rattle.gl_rule.specs.declared.slot.Slot.TheVariants as slot
use Rattle.gl_rule.specs.View.{shelf}
use Rattle.gl_table.specs.CaughtUp.{caught_up}
use Rattle.gl_table.specs.Told.{PublishedTx}
use Rattle.gl_table.proofs.Calls.{may_commit}
use Rattle.gl_table.proofs.moves.publish_tx.Goals as goal

pub fetch_add-requires : goal.fetch_add-requires
fetch_add-requires g c = let long = c.requires.table.table.words in let o = c.requires.told
    in (
      c.requires.table.same,
      omega arith,
      may_commit _ _ _ _ _ _ _ o.0 c.requires.ready _ _ _ _ _ o.1 o.2 o.3 c.requires.may
          c.requires.commits,
    )

-- what is told speaks of the thread's own list and attempt
pub returns-clause-published : goal.returns-clause-published
returns-clause-published g c =
    let o = c.requires.told in
    let s = shelf c.args.id c.args.mine.now.entries in
    let y = slot.List c.args.state.now in
    let v = caught_up c.args.seat.now.me.0 c.args.id c.args.mine.now.entries in
    let me = c.args.seat.now.me.1 in
    let n = c.fetch_add.result in
    let w = c.fetch_add.new.seat.me in
    let e = g.B.Told.event in
    subst (λ z. PublishedTx s z y v me n w) o.3
    (subst (λ z. PublishedTx s g.B.Told.tx z v me n w) o.2
    (subst (λ z. PublishedTx z g.B.Told.tx e.state v me n w) o.1
    (subst (λ z. PublishedTx e.shelf g.B.Told.tx e.state z me n w) o.0 c.fetch_add.ensures.2)))
