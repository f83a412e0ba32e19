use Rattle.std.proofs.Common.{◌≡◌, ◌≤◌, ◌-◌, ◌++◌, ◌∙◌, ap, arith}
use Rattle.std.specs.List.{flat_map, range_with_len}
use Rattle.gl_gen.specs.Bank.{adding}
use Rattle.gl_gen.proofs.Ranges.{with_more_from_one}
use Rattle.gl_gen.proofs.code.add_sums.Goals as goal

pub loop-account-preserved : goal.loop-account-preserved
loop-account-preserved c =
    let account = c.loop-account.account in
    let least : 1 ≤ account = omega arith in
    let more : c.extend_from_slice.new.self.items ≡ c.loop-account.code.items ++ adding account = c.in_ok-extend_from_slice.ensures.items in
    more ∙ ap (λ front. front ++ adding account) c.loop-account.invariant ∙ with_more_from_one adding c.args.code.now.items account least

pub returns : goal.returns
returns c =
    let all : c.loop-account.account - 1 ≡ 7 = omega arith in
    c.loop-account.invariant ∙ ap (λ n. c.args.code.now.items ++ flat_map adding (range_with_len 1 n)) all
