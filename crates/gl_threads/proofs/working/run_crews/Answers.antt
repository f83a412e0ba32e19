use Rattle.std.proofs.Common.{rules}
use Rattle.gl_bytecode.proofs.program.Program.TheSendSync.{the_sync as program_sync}
use Rattle.gl_table.proofs.shared.Shared.TheSendSync.{the_sync as shared_sync}
use Rattle.gl_threads.proofs.roll.RollCall.TheSendSync.{the_sync as roll_sync}
use Rattle.gl_threads.proofs.working.run_crews.Goals as goal

-- what the closure refers to may cross to a worker: the runtime, the table, the program, the gate and the roll call; of the rest the
-- tactics see it
pub for_each_mut-requires-sync-F : goal.for_each_mut-requires-sync-F
for_each_mut-requires-sync-F g c κs within = record {
  shared = λ x b o κ.
      (let runtime = c.type_bounds.sync-R.shared x.0.now x.0.ref_ptr.0 x.0.ref_ptr.1 κs.1.1.1.1.1.1.0 in
      let table = shared_sync.shared x.1.now x.1.ref_ptr.0 x.1.ref_ptr.1 κs.1.1.1.1.1.1.1.0 in
      let code = program_sync.shared x.2.now x.2.ref_ptr.0 x.2.ref_ptr.1 κs.1.1.1.1.1.1.1.1.0 in
      let call = roll_sync.shared x.6.now x.6.ref_ptr.0 x.6.ref_ptr.1 κs.1.1.1.1.1.1.1.1.1.1.1.1.0 in
      search (rules, runtime, table, code, call, c.type_bounds.sync-G.shared));
}
