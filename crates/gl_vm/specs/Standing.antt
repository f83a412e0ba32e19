-- Which instruction a machine stands at.
use Rattle.std.specs.Prelude.{Option, Some, None}
use Rattle.gl_bytecode.specs.declared.ask.Stage.{Stage}
use Rattle.gl_bytecode.specs.declared.ask.Stage.TheVariants.{New, Begins, Runs, Waits, Drops, Leaves, Ends, Over}
use Rattle.gl_bytecode.specs.Machine.{Config, Frame}
use Rattle.gl_vm.specs.declared.standing.Site.{Site}

-- the place of the frame, where its instruction has asked and waits, or has ended the attempt that runs
abbrev pub site_at : Stage → Frame → Option Site
site_at New frame = None
site_at Begins frame = None
site_at Runs frame = None
site_at (Waits ask) frame = Some (record { function = frame.function; place = frame.place })
site_at (Drops failure) frame = Some (record { function = frame.function; place = frame.place })
site_at (Leaves ending o) frame = None
site_at (Ends ending) frame = None
site_at (Over ending) frame = None

abbrev pub site_of : Config → Option Site
site_of c = site_at c.stage c.frame
