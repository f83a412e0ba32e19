use Rattle.std.proofs.Common.{rules, FitsSigned, w64}
use Rattle.std.proofs.lemmas.Int.{to_z-of_z}
use Rattle.gl_vm.specs.Asking.{AsksInRange}
use Rattle.gl_bytecode.specs.declared.ask.Ask.TheVariants.{Fork}
use Rattle.gl_riders.proofs.Starting.{may_fork}
use Rattle.gl_riders.proofs.events.event.Goals as goal

pub fork-requires : goal.fork-requires
fork-requires c =
    let fits : FitsSigned w64 c.in-Fork.value = search rules in
    let there : AsksInRange c.args.program.now (Fork c.in-Fork.func c.in-Fork.value) = rw c.in-Fork.is at c.requires.in_range in
    let starts = may_fork c.args.program.now c.args.shared.now.key.setting c.in-Fork.func there.0 c.requires.set there.1 there.2 in
    simp to_z-of_z (record {
      may = rw c.in-Fork.is at c.requires.may;
      there = c.main-begins.ensures.forkable c.in-Fork.func starts;
      starts = starts;
    })
