use Rattle.std.proofs.Common.{sym}
use Rattle.gl_bytecode.proofs.Faultless.{faultless_is_sound}
use Rattle.gl_bytecode.proofs.program.Program.main.Goals as goal

-- src/program.rt:81:5
pub returns-clause-valid : goal.returns-clause-valid
returns-clause-valid c = rw (sym c.self.view_is) (faultless_is_sound _ c.self.invariant.0)
