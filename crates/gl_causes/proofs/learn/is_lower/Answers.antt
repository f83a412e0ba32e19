use Rattle.std.proofs.Common.{◌≡◌, ◌∙◌, true, false, ap, sym, arith}
use Rattle.std.proofs.lemmas.Option.{slice_get_within}
use Rattle.gl_causes.specs.Judging.{number_on}
use Rattle.gl_causes.specs.Learning.{is_lower, is_lower_than}
use Rattle.gl_causes.proofs.Walks.{lower_more, lower_one, taken}
use Rattle.gl_causes.proofs.learn.is_lower.Goals as goal

pub returns-then-is_lower_than : goal.returns-then-is_lower_than
returns-then-is_lower_than c =
    let n = c.in-Some.number in
    let test : is_lower_than n.nth (number_on c.args.earlier.now n.var) ≡ true = ap (is_lower_than n.nth) (sym c.number_on.ensures)
    ∙ sym c.is_lower_than.ensures ∙ c.if-is_lower_than.true in
    sym (lower_one c.args.earlier.now c.args.later.now c.loop-i.i n (sym c.in-Some.ensures) test)

pub loop-i-preserved : goal.loop-i-preserved
loop-i-preserved c =
    let n = c.in-Some.number in
    let there = sym c.in-Some.ensures in
    let test : is_lower_than n.nth (number_on c.args.earlier.now n.var) ≡ false = ap (is_lower_than n.nth) (sym c.number_on.ensures)
    ∙ sym c.is_lower_than.ensures ∙ c.if-is_lower_than.false in record {
      within = omega (arith, slice_get_within c.args.later.now c.loop-i.i n there);
      so_far = ap (is_lower c.args.earlier.now) (taken c.args.later.now c.loop-i.i n there)
          ∙ lower_more c.args.earlier.now _ n c.loop-i.invariant.so_far test;
    }
