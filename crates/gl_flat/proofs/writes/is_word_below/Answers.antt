use Rattle.std.proofs.Common.{◌-◌, FitsSigned, arith, pos, rules, subst, sym, w64, slice_index_or}
use Rattle.std.proofs.lemmas.List.Sorted.{IsPartitionPoint-from_clause}
use Rattle.std.proofs.lemmas.Int.{to_z-of_z}
use Rattle.std.specs.Prelude.{Contains, MatchBool}
use Rattle.std.specs.List.Sorted.{IsBinarySearchResult}
use Rattle.gl_flat.specs.Sorted.{written_cmp}
use Rattle.gl_flat.specs.declared.writes.Written.{Written}
use Rattle.gl_flat.proofs.Search.{first_point, is_before, other_point, parted, same_point, searched, zero_test}
use Rattle.gl_flat.proofs.writes.is_word_below.Goals as goal

pub returns-then-end-eq0 : goal.returns-then-end-eq0
returns-then-end-eq0 c = λ R are.
    let ws = c.args.writes.now in
    let point = IsPartitionPoint-from_clause (is_before c.args.var c.args.nth) _ _ c.partition_point-end.ensures.partitioned
    (parted ws c.requires c.args.var c.args.nth) (λ a r q k. search rules) in
    first_point ws c.requires R are c.args.var c.args.nth c.partition_point-end.result c.args.value point c.if-end-eq0.true _
    (zero_test c.args.value c.ranges.value)

pub returns-then-last-var : goal.returns-then-last-var
returns-then-last-var c = λ R are.
    let ws = c.args.writes.now in
    let point = IsPartitionPoint-from_clause (is_before c.args.var c.args.nth) _ _ c.partition_point-end.ensures.partitioned
    (parted ws c.requires c.args.var c.args.nth) (λ a r q k. search rules) in
    other_point ws c.requires R are c.args.var c.args.nth c.partition_point-end.result c.args.value point
    (record { var = 0; nth = 0; value = pos 0 }) (omega arith) c.partition_point-end.ensures.bound
    c.if-last-var.true _ (zero_test c.args.value c.ranges.value)

pub returns : goal.returns
returns c = λ R are.
    let ws = c.args.writes.now in
    let fits : FitsSigned w64 c.args.value = c.ranges.value in
    let d : Written = record { var = 0; nth = 0; value = pos 0 } in
    let last : Written = slice_index_or ws (c.partition_point-end.result - 1) d in
    let target : Written = record { var = c.args.var; nth = last.nth; value = c.args.value } in
    let point = IsPartitionPoint-from_clause (is_before c.args.var c.args.nth) _ _ c.partition_point-end.ensures.partitioned
    (parted ws c.requires c.args.var c.args.nth) (λ a r q k. search rules) in
    same_point ws c.requires R are c.args.var c.args.nth c.partition_point-end.result c.args.value point d
    (omega arith) c.partition_point-end.ensures.bound
    c.if-last-var.false c.is_ok.result
    (subst (λ b. MatchBool b (Contains ws target) (Contains ws target → ⊥)) (sym c.is_ok.ensures.value)
    (searched ws c.requires target c.binary_search.result c.binary_search.ensures.bound
    (subst (λ v. IsBinarySearchResult (λ y. written_cmp y (record { var = c.args.var; nth = last.nth; value = v })) ws
    c.binary_search.result) (to_z-of_z w64 c.args.value fits) c.binary_search.ensures.position)))
