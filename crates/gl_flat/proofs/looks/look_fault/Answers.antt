use Rattle.std.proofs.Common.{◌≤◌, arith, map, subst, sym}
use Rattle.gl_model.specs.declared.limits.TheConstants.{THREADS}
use Rattle.gl_model.specs.Entries.{seen}
use Rattle.gl_model.specs.Lists.{lists_of}
use Rattle.gl_flat.specs.Below.{AreWrites}
use Rattle.gl_flat.proofs.RightLooks.{all_looks, first_look, next_look}
use Rattle.gl_flat.proofs.looks.look_fault.Goals as goal

pub returns-in-Some : goal.returns-in-Some
returns-in-Some c =
    let R = lists_of c.args.made.now in
    let are : AreWrites R c.deref.result.now = subst (AreWrites R) (sym c.deref.ensures.value) c.in_ok-writes.ensures.all in
    first_look R c.loop-thread.thread (map seen c.list_of.result.now) c.list_of.ensures c.loop-thread.invariant c.in-Some.i
    (c.in-Some.ensures R are)

pub loop-thread-preserved : goal.loop-thread-preserved
loop-thread-preserved c =
    let R = lists_of c.args.made.now in
    let are : AreWrites R c.deref.result.now = subst (AreWrites R) (sym c.deref.ensures.value) c.in_ok-writes.ensures.all in
    next_look R c.loop-thread.thread (map seen c.list_of.result.now) c.list_of.ensures c.loop-thread.invariant (c.in_default.ensures R are)

pub returns : goal.returns
returns c =
    let far : THREADS ≤ c.loop-thread.thread = omega (arith, c.loop-thread-test.false) in
    all_looks c.args.made.now c.keeps.ensures c.loop-thread.thread far c.loop-thread.invariant
