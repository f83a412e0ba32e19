use Rattle.std.proofs.Common.{map, arith}
use Rattle.std.proofs.lemmas.List.{length-map}
use Rattle.gl_model.specs.Entries.{seen}
use Rattle.gl_form.proofs.Places.{list_kept}
use Rattle.gl_form.proofs.fault.thread_fault.Goals as goal

pub list_fault-requires-clause-some : goal.list_fault-requires-clause-some
list_fault-requires-clause-some c =
    let some = (list_kept c.args.made.now c.args.thread (map seen c.in-Some.list.now) c.keeps.ensures.1 c.in-Some.ensures).1 in
    let same = length-map c.in-Some.list.now seen in
    omega arith

pub list_fault-requires-clause-kept : goal.list_fault-requires-clause-kept
list_fault-requires-clause-kept c =
    (list_kept c.args.made.now c.args.thread (map seen c.in-Some.list.now) c.keeps.ensures.1 c.in-Some.ensures).2
