use Rattle.std.proofs.Common.{◌≡◌, ℕ, ◌<◌, Some}
use Rattle.gl_bytecode.specs.Faults.{IsRight}
use Rattle.gl_bytecode.specs.Programs.{Function, function_at}
use Rattle.gl_bytecode.proofs.contents.Contents.first_fault.Given as goal

abbrev pub invariant-loop-number : goal.invariant-loop-number
invariant-loop-number l =
    (l.function-items ≡ l.self.functions) × ((g : ℕ) (G : Function) → g < l.number → function_at l.self g ≡ Some G → IsRight l.self G)
