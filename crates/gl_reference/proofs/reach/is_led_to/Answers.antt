use Rattle.gl_reference.specs.Steps.{Leads}
use Rattle.gl_reference.proofs.Marks.{one_marked, none_marked, none_more}
use Rattle.gl_reference.proofs.reach.is_led_to.Goals as goal

pub loop-p-preserved : goal.loop-p-preserved
loop-p-preserved c = none_more c.args.events.now c.args.marks.now (λ r. Leads r c.args.s.now) c.loop-p.p c.loop-p.invariant
    (λ w. let yes = c.leads_from.ensures.1 w in let no = c.if-leads_from.false in cc)

pub returns-then-leads_from : goal.returns-then-leads_from
returns-then-leads_from c = one_marked c.args.events.now c.args.marks.now (λ r. Leads r c.args.s.now) c.loop-p.p
    (c.leads_from.ensures.0 c.if-leads_from.true)

pub returns : goal.returns
returns c = none_marked c.args.events.now c.args.marks.now (λ r. Leads r c.args.s.now) c.loop-p.p c.loop-p-test.false c.loop-p.invariant
