use Rattle.std.proofs.Common.{◌≡◌, ◌++◌}
use Rattle.std.specs.List.{flat_map, range_with_len}
use Rattle.gl_gen.specs.Bank.{waiting}
use Rattle.gl_gen.proofs.code.add_waits.Given as goal

abbrev pub invariant-loop-account : goal.invariant-loop-account
invariant-loop-account l = l.code.items ≡ l.fn.code.items ++ flat_map waiting (range_with_len 0 l.account)
