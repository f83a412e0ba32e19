use Rattle.std.proofs.Common.{◌≡◌, length, map, sym, arith}
use Rattle.std.proofs.lemmas.List.{length-map}
use Rattle.gl_model.specs.Entries.{seen}
use Rattle.gl_form.proofs.Walks.{earlier_keep, entry_at, entry_kept, keep_more, no_over_fails, over_keeps}
use Rattle.gl_form.proofs.fault.list_fault.Goals as goal

pub loop-i-init : goal.loop-i-init
loop-i-init c = record { come = c.in_ok-walk.ensures (map seen c.args.list.now); keep = λ j less. absurd (omega arith) }

pub takes-requires-clause-kept : goal.takes-requires-clause-kept
takes-requires-clause-kept c =
    entry_kept (map seen c.args.list.now) c.loop-i.i (seen c.index-list-i.result) c.requires.kept
    (entry_at c.args.list.now c.loop-i.i c.index-list-i.result c.loop-i-test.true c.index-list-i.is)

pub returns-then-not-takes : goal.returns-then-not-takes
returns-then-not-takes c =
    let es = map seen c.args.list.now in
    let at = entry_at c.args.list.now c.loop-i.i c.index-list-i.result c.loop-i-test.true c.index-list-i.is in
    (c.if-not-takes.ensures es c.loop-i.invariant.come at, earlier_keep c.args.thread es c.loop-i.i c.loop-i.invariant.keep)

pub loop-i-preserved : goal.loop-i-preserved
loop-i-preserved c =
    let es = map seen c.args.list.now in
    let at = entry_at c.args.list.now c.loop-i.i c.index-list-i.result c.loop-i-test.true c.index-list-i.is in
    let both = c.if-not-takes.ensures es c.loop-i.invariant.come at in
    record { come = both.1; keep = keep_more c.args.thread es c.loop-i.i c.loop-i.invariant.keep both.0 }

pub returns-then-is_over : goal.returns-then-is_over
returns-then-is_over c =
    let es = map seen c.args.list.now in
    let same = length-map c.args.list.now seen in
    over_keeps c.args.thread es c.loop-i.i c.loop-i.invariant.keep (omega arith)
    (c.if-is_over.ensures es c.loop-i.i c.loop-i.invariant.come)

pub returns : goal.returns
returns c =
    let es = map seen c.args.list.now in
    let same = length-map c.args.list.now seen in
    let some = c.requires.some in
    let all : c.loop-i.i ≡ length c.args.list.now = omega arith in
    rw (sym all) (
      no_over_fails c.args.thread es c.loop-i.i c.loop-i.invariant.keep (omega arith) (omega arith)
          (c.if-is_over.ensures es c.loop-i.i c.loop-i.invariant.come),
      earlier_keep c.args.thread es c.loop-i.i c.loop-i.invariant.keep,
    )
