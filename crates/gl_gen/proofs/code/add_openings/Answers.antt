use Rattle.std.proofs.Common.{◌≡◌, ◌++◌, ◌∙◌, ap}
use Rattle.gl_gen.specs.Bank.{opening}
use Rattle.gl_gen.proofs.Ranges.{with_more}
use Rattle.gl_gen.proofs.code.add_openings.Goals as goal

pub loop-account-preserved : goal.loop-account-preserved
loop-account-preserved c =
    let account = c.loop-account.account in
    let more : c.extend_from_slice.new.self.items ≡ c.loop-account.code.items
    ++ opening account = c.in_ok-extend_from_slice.ensures.items in
    more ∙ ap (λ front. front ++ opening account) c.loop-account.invariant ∙ with_more opening c.args.code.now.items account
