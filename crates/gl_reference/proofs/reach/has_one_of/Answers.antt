use Rattle.std.proofs.Common.{◌≡◌}
use Rattle.gl_reference.proofs.Marks.{one_marked, none_marked, none_more}
use Rattle.gl_reference.proofs.reach.has_one_of.Goals as goal

pub loop-p-preserved : goal.loop-p-preserved
loop-p-preserved c = none_more c.args.events.now c.args.marks.now (λ r. r.thread ≡ c.args.u) c.loop-p.p c.loop-p.invariant
    (λ w. let yes = c.is_of.ensures.1 w in let no = c.if-is_of.false in cc)

pub returns-then-is_of : goal.returns-then-is_of
returns-then-is_of c = one_marked c.args.events.now c.args.marks.now (λ r. r.thread ≡ c.args.u) c.loop-p.p
    (c.is_of.ensures.0 c.if-is_of.true)

pub returns : goal.returns
returns c = none_marked c.args.events.now c.args.marks.now (λ r. r.thread ≡ c.args.u) c.loop-p.p c.loop-p-test.false c.loop-p.invariant
