use Rattle.std.proofs.Common.{ap, rules, FitsSigned, w64}
use Rattle.std.proofs.lemmas.Int.{to_z-of_z}
use Rattle.gl_bytecode.specs.Lawful.{setting_of}
use Rattle.gl_model.specs.Entries.{seen}
use Rattle.gl_acts.proofs.Applied.{of_commit, of_entry}
use Rattle.gl_acts.proofs.apply.apply_entry.Goals as goal

pub returns-in-Sync : goal.returns-in-Sync
returns-in-Sync c =
    let setting = setting_of c.args.program.now c.args.inputs.now in
    let fits : FitsSigned w64 c.in-Sync.value = search rules in
    let applies = simp to_z-of_z at c.apply.ensures in
    of_entry setting c.args.thread c.args.state.now c.apply.new.state c.apply.result (seen c.args.entry.now)
    c.in-Sync.at c.in-Sync.act c.in-Sync.value (ap seen c.in-Sync.is) applies

pub returns-in-Commit : goal.returns-in-Commit
returns-in-Commit c =
    let setting = setting_of c.args.program.now c.args.inputs.now in
    of_commit setting c.args.thread c.args.state.now c.args.state.now c.commit.result (seen c.args.entry.now)
    c.in-Commit.at c.in-Commit.tx.value (ap seen c.in-Commit.is) (c.commit.ensures setting)
