use Rattle.gl_bytecode.specs.Lawful.{setting_of}
use Rattle.gl_acts.proofs.Applied.{fails_as_full, fails_as_not_owner, fails_as_unforked}
use Rattle.gl_acts.proofs.refusals.fail.Goals as goal

pub returns-in-5 : goal.returns-in-5
returns-in-5 c =
    let setting = setting_of c.args.program.now c.args.inputs.now in
    fails_as_not_owner setting c.args.by.thread c.args.by.value c.args.state.now c.requires.runs
    c.args.code c.is_not_owner.result c.in-5.is c.is_not_owner.ensures

pub returns-in-6 : goal.returns-in-6
returns-in-6 c =
    let setting = setting_of c.args.program.now c.args.inputs.now in
    fails_as_full setting c.args.by.thread c.args.by.value c.args.state.now c.requires.runs
    c.args.code c.is_full.result c.in-6.is (c.is_full.ensures c.args.inputs.now)

pub returns-in-11 : goal.returns-in-11
returns-in-11 c =
    let setting = setting_of c.args.program.now c.args.inputs.now in
    fails_as_unforked setting c.args.by.thread c.args.by.value c.args.state.now c.requires.runs
    c.args.code c.is_unforked.result c.in-11.is c.is_unforked.ensures
