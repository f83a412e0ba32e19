use Rattle.std.proofs.Common.{◌≡◌, ◌++◌, ◌-◌}
use Rattle.std.specs.List.{flat_map, range_with_len}
use Rattle.gl_gen.specs.Bank.{adding}
use Rattle.gl_gen.proofs.code.add_sums.Given as goal

abbrev pub invariant-loop-account : goal.invariant-loop-account
invariant-loop-account l = l.code.items ≡ l.fn.code.items ++ flat_map adding (range_with_len 1 (l.account - 1))
