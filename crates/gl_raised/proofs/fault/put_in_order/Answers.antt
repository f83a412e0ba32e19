use Rattle.std.proofs.Common.{rules}
use Rattle.std.proofs.lemmas.List.Sorted.{IsNonDecreasingBy-from_sort_by_key}
use Rattle.gl_raised.specs.declared.access.Access.{Access}
use Rattle.gl_raised.proofs.Faulting.{sorted_of}
use Rattle.gl_raised.proofs.fault.put_in_order.Goals as goal

pub returns : goal.returns
returns c = sorted_of _ _ c.in_ok-sort_by_key.ensures.permutation
    (IsNonDecreasingBy-from_sort_by_key (λ (a : Access). a.nth) _ c.in_ok-sort_by_key.ensures.sorted (λ a r q k. search rules))
