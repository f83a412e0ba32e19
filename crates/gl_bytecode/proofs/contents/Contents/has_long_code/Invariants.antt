use Rattle.std.proofs.Common.{◌≡◌, ◌+◌, length, sum_by, take}
use Rattle.gl_bytecode.specs.declared.limits.TheConstants.{CODE}
use Rattle.gl_bytecode.proofs.contents.Contents.has_long_code.Given as goal

abbrev pub invariant-loop-function : goal.invariant-loop-function
invariant-loop-function l =
    (l.function-items ≡ l.self.functions) × (l.room + sum_by (λ F. length F.code) (take l.function-index l.self.functions) ≡ CODE)
