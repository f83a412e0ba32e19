use Rattle.std.proofs.Common.{arith, refl, subst}
use Rattle.gl_rule.specs.Told.{Opened}
use Rattle.gl_rule.specs.View.{shelf}
use Rattle.gl_table.specs.CaughtUp.{block_of, caught_up}
use Rattle.gl_table.proofs.Calls.{may_open}
use Rattle.gl_table.proofs.moves.open_number.Goals as goal

pub fetch_add-requires : goal.fetch_add-requires
fetch_add-requires g c = let near = c.requires.near in let long = c.requires.table.table.words in let o = c.requires.told
    in (
      c.requires.table.same,
      omega arith,
      may_open _ _ _ _ _ _ _ o.0 c.requires.ready _ _ _ _ _ _ _ _ _ _ o.1 refl o.2 o.3 refl o.4
          c.requires.may,
    )

-- what is told speaks of the thread's own list and variable
pub returns-clause-drew : goal.returns-clause-drew
returns-clause-drew g c =
    let o = c.requires.told in
    let es = c.args.mine.now.entries in
    let s = shelf c.args.id es in
    let v = caught_up c.args.seat.now.me.0 c.args.id es in
    let h = g.B.Told.held in
    let me = c.args.seat.now.me.1 in
    let n = c.fetch_add.result in
    let w = c.fetch_add.new.seat.me in
    let b = g.B.Told.mark.block in
    let x = g.B.Told.object in
    let k = g.B.Told.look in
    subst (λ z. Opened s h c.args.var (block_of es) z v me n w) o.4
    (subst (λ z. Opened s h z (block_of es) k v me n w) o.3
    (subst (λ z. Opened s h x z k v me n w) o.2
    (subst (λ z. Opened z h x b k v me n w) o.1
    (subst (λ z. Opened g.B.Told.mark.shelf h x b k z me n w) o.0 c.fetch_add.ensures.2))))
