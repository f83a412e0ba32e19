use Rattle.std.proofs.Common.{◌≡◌, subst, arith}
use Rattle.gl_model.specs.Lists.{lists_of}
use Rattle.gl_model.specs.declared.limits.TheConstants.{THREADS}
use Rattle.gl_form.specs.Come.{IsFirstIn}
use Rattle.gl_form.proofs.Exact.{formed_exactly}
use Rattle.gl_form.proofs.Places.{NoneBelow, fails_nowhere, first_place, none_more}
use Rattle.gl_form.proofs.fault.form_fault.Goals as goal

pub returns-in-Some : goal.returns-in-Some
returns-in-Some c =
    let made = c.args.made.now in
    let thread = c.loop-thread.thread in
    let first = subst (IsFirstIn thread (lists_of made thread)) c.in-Some.is c.in_ok-index.ensures in
    first_place made thread c.in-Some.index c.loop-thread.invariant first.0 first.1

pub loop-thread-preserved : goal.loop-thread-preserved
loop-thread-preserved c =
    let made = c.args.made.now in
    let thread = c.loop-thread.thread in
    let none = subst (IsFirstIn thread (lists_of made thread)) c.in_default.is c.in_ok-index.ensures in
    none_more made thread c.loop-thread.invariant none

pub returns : goal.returns
returns c =
    let made = c.args.made.now in
    let all : c.loop-thread.thread ≡ THREADS = omega arith in
    let none : NoneBelow made THREADS = subst (NoneBelow made) all c.loop-thread.invariant in
    (formed_exactly (lists_of made)).1 (fails_nowhere made c.keeps.ensures.1 none)
