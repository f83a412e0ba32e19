use Rattle.std.proofs.Common.{get_or}
use Rattle.std.proofs.lemmas.Option.{slice_get-get_or}
use Rattle.gl_reference.specs.Races.{IsRacyPart}
use Rattle.gl_reference.proofs.Marks.{none_of_more}
use Rattle.gl_reference.proofs.CommitParts.{not_part, first_here, none_left}
use Rattle.gl_reference.proofs.races.first_racy.Goals as goal

pub loop-var-preserved : goal.loop-var-preserved
loop-var-preserved c =
    let xs = c.ids-var-items.result.now in
    let i = c.loop-var.var-index in
    none_of_more xs (IsRacyPart c.args.events.now c.args.performed.now c.args.thread c.args.variables c.args.writes.now) i (get_or xs i 0)
    (slice_get-get_or xs i 0 c.loop-var-test.true)
    (not_part c.args.events.now c.args.performed.now c.args.thread c.args.variables c.args.writes.now (get_or xs i 0)
    c.part_of-next.result c.in_ok-is_racy.field-0 c.part_of-next.ensures c.in_ok-is_racy.ensures c.if-branch.false) c.loop-var.invariant

pub returns-then-branch : goal.returns-then-branch
returns-then-branch c =
    let xs = c.ids-var-items.result.now in
    let i = c.loop-var.var-index in
    first_here c.args.events.now c.args.performed.now c.args.thread c.args.variables c.args.writes.now xs i (get_or xs i 0)
    c.part_of-next.result c.in_ok-is_racy.field-0 c.ids-var-items.ensures.same (slice_get-get_or xs i 0 c.loop-var-test.true)
    c.part_of-next.ensures c.in_ok-is_racy.ensures c.if-branch.true c.loop-var.invariant

pub returns : goal.returns
returns c = none_left c.args.events.now c.args.performed.now c.args.thread c.args.variables c.args.writes.now c.ids-var-items.result.now
    c.loop-var.var-index c.ids-var-items.ensures.same c.loop-var-test.false c.loop-var.invariant
