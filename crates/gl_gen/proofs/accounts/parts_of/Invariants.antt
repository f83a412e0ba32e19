use Rattle.std.proofs.Common.{◌≡◌, [], ◌∷◌, Some, map}
use Rattle.std.specs.List.{range_with_len}
use Rattle.gl_gen.specs.Bank.{main_function, transfer_function}
use Rattle.gl_gen.proofs.accounts.parts_of.Given as goal

abbrev pub invariant-loop-account : goal.invariant-loop-account
invariant-loop-account l = l.parts ≡ record {
  classes = (record { plain = 8; volatile = 0 }) ∷ [];
  functions = main_function ∷ map (transfer_function l.transfers) (range_with_len 0 l.account);
  main = Some 0;
}
