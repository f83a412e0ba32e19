use Rattle.gl_bytecode.specs.Lawful.{setting_of}
use Rattle.gl_model.specs.declared.event.Act.TheVariants.{End, Acq, Rel, VRead, VWrite, Fork, Join, Alloc, Print, Input, Fail}
use Rattle.std.proofs.Common.{true}
use Rattle.gl_acts.proofs.Applied.{of_act, printed}
use Rattle.gl_acts.proofs.apply.apply_running.Goals as goal

pub returns-in-End : goal.returns-in-End
returns-in-End c =
    let setting = setting_of c.args.program.now c.args.inputs.now in
    of_act setting c.args.by.thread c.args.state.now c.end.new.state c.end.result c.args.by.value c.args.act End
    c.in-End.is (c.end.ensures setting)

pub returns-in-Acq : goal.returns-in-Acq
returns-in-Acq c =
    let setting = setting_of c.args.program.now c.args.inputs.now in
    of_act setting c.args.by.thread c.args.state.now c.acquire.new.state c.acquire.result c.args.by.value c.args.act (Acq c.in-Acq.monitor)
    c.in-Acq.is (c.acquire.ensures setting)

pub returns-in-Rel : goal.returns-in-Rel
returns-in-Rel c =
    let setting = setting_of c.args.program.now c.args.inputs.now in
    of_act setting c.args.by.thread c.args.state.now c.release.new.state c.release.result c.args.by.value c.args.act (Rel c.in-Rel.monitor)
    c.in-Rel.is (c.release.ensures setting)

pub returns-in-VRead : goal.returns-in-VRead
returns-in-VRead c =
    let setting = setting_of c.args.program.now c.args.inputs.now in
    of_act setting c.args.by.thread c.args.state.now c.args.state.now c.read.result c.args.by.value c.args.act (VRead c.in-VRead.field)
    c.in-VRead.is (c.read.ensures setting)

pub returns-in-VWrite : goal.returns-in-VWrite
returns-in-VWrite c =
    let setting = setting_of c.args.program.now c.args.inputs.now in
    of_act setting c.args.by.thread c.args.state.now c.write.new.state c.write.result c.args.by.value c.args.act (VWrite c.in-VWrite.field)
    c.in-VWrite.is (c.write.ensures setting)

pub returns-in-Fork : goal.returns-in-Fork
returns-in-Fork c =
    let setting = setting_of c.args.program.now c.args.inputs.now in
    of_act setting c.args.by.thread c.args.state.now c.fork.new.state c.fork.result c.args.by.value c.args.act
    (Fork c.in-Fork.child c.in-Fork.func)
    c.in-Fork.is (c.fork.ensures c.args.inputs.now)

pub returns-in-Join : goal.returns-in-Join
returns-in-Join c =
    let setting = setting_of c.args.program.now c.args.inputs.now in
    of_act setting c.args.by.thread c.args.state.now c.args.state.now c.join.result c.args.by.value c.args.act (Join c.in-Join.other)
    c.in-Join.is (c.join.ensures setting)

pub returns-in-Alloc : goal.returns-in-Alloc
returns-in-Alloc c =
    let setting = setting_of c.args.program.now c.args.inputs.now in
    of_act setting c.args.by.thread c.args.state.now c.make.new.state c.make.result c.args.by.value c.args.act (Alloc c.in-Alloc.class)
    c.in-Alloc.is (c.make.ensures c.args.inputs.now)

pub returns-in-Input : goal.returns-in-Input
returns-in-Input c =
    let setting = setting_of c.args.program.now c.args.inputs.now in
    of_act setting c.args.by.thread c.args.state.now c.take.new.state c.take.result c.args.by.value c.args.act Input
    c.in-Input.is (c.take.ensures c.args.program.now)

pub returns-in-Fail : goal.returns-in-Fail
returns-in-Fail c =
    let setting = setting_of c.args.program.now c.args.inputs.now in
    of_act setting c.args.by.thread c.args.state.now c.args.state.now c.fail.result c.args.by.value c.args.act (Fail c.in-Fail.code)
    c.in-Fail.is c.fail.ensures

pub returns-in-Print : goal.returns-in-Print
returns-in-Print c =
    let setting = setting_of c.args.program.now c.args.inputs.now in
    of_act setting c.args.by.thread c.args.state.now c.args.state.now true c.args.by.value c.args.act Print c.in-Print.is
    (printed setting c.args.by.thread c.args.by.value c.args.state.now c.requires.runs)
