use Rattle.std.proofs.Common.{◌≡◌, ◌+◌, ◌-◌, ℕ, length, arith, subst, Some, rules}
use Rattle.gl_explain.specs.Races.{Counts, IsLastOf, IsUnknown}
use Rattle.gl_explain.proofs.Counting.{last_there, count_there, unknown_near}
use Rattle.gl_explain.proofs.races.last_culprit.Goals as goal

pub unwrap-place-requires : goal.unwrap-place-requires
unwrap-place-requires c = last_there (IsUnknown c.args.kept.now c.args.next.now c.args.var c.args.known.now) c.find-found.result.place
    c.requires c.find-found.ensures.last

pub overflow_sub-result : goal.overflow_sub-result
overflow_sub-result c =
    let some = count_there (IsUnknown c.args.kept.now c.args.next.now c.args.var c.args.known.now) (length c.args.kept.now)
    c.find-found.result.count c.find-found.result.place (unknown_near c.args.kept.now c.args.next.now c.args.var c.args.known.now)
    c.requires c.find-found.ensures.count in
    omega arith

pub returns : goal.returns
returns c =
    let P : ℕ → Type 0 = IsUnknown c.args.kept.now c.args.next.now c.args.var c.args.known.now in
    let is : c.find-found.result.place ≡ Some c.unwrap-place.result = search rules in
    let last : IsLastOf P (Some c.unwrap-place.result) = subst (IsLastOf P) is c.find-found.ensures.last in
    let some = count_there P (length c.args.kept.now) c.find-found.result.count c.find-found.result.place
    (unknown_near c.args.kept.now c.args.next.now c.args.var c.args.known.now) c.requires c.find-found.ensures.count in
    let count : c.find-found.result.count ≡ (c.find-found.result.count - 1) + 1 = omega arith in
    record {
      near = unknown_near c.args.kept.now c.args.next.now c.args.var c.args.known.now c.unwrap-place.result last.0;
      last = last;
      count = subst (Counts P (length c.args.kept.now)) count c.find-found.ensures.count;
    }
