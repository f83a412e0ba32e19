use Rattle.std.proofs.Common.{◌≡◌, ◌≤◌, ◌+◌, ◌++◌, ◌∙◌, ap, arith, subst, sym}
use Rattle.std.specs.List.{flat_map}
use Rattle.gl_model.specs.Entries.{seen}
use Rattle.gl_model.specs.declared.limits.TheConstants.{THREADS}
use Rattle.gl_model.specs.Lists.{lists_of}
use Rattle.gl_flat.specs.Below.{written_by}
use Rattle.gl_flat.proofs.Gathering.{AreWritesBelow, all_written, flat_seen, none_written, written_next}
use Rattle.gl_flat.proofs.writes.writes_of.Goals as goal

pub loop-thread-init : goal.loop-thread-init
loop-thread-init c = subst (AreWritesBelow (lists_of c.args.made.now) 0) (sym c.new-writes.ensures.items)
    (none_written (lists_of c.args.made.now))

pub loop-thread-preserved : goal.loop-thread-preserved
loop-thread-preserved c =
    let R = lists_of c.args.made.now in
    let t = c.loop-thread.thread in
    let old = c.loop-thread.writes.items in
    let new = c.add_list.new.writes.items in
    let added : new ≡ old ++ flat_map written_by (R t) = c.in_ok-add_list.ensures ∙
    ap (λ ys. old ++ ys) (flat_seen seen written_by c.list_of.result.now ∙ ap (flat_map written_by) c.list_of.ensures) in
    subst (AreWritesBelow R (t + 1)) (sym added) (written_next R t old c.loop-thread.invariant)

pub returns-clause-all : goal.returns-clause-all
returns-clause-all c =
    let far : THREADS ≤ c.loop-thread.thread = omega (arith, c.loop-thread-test.false) in
    all_written c.args.made.now c.keeps.ensures c.loop-thread.thread far c.loop-thread.writes.items _ c.loop-thread.invariant
    c.in_ok-sort.ensures.permutation
