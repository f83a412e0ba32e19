use Rattle.std.proofs.Common.{◌≡◌, ◌++◌, ◌∙◌, ap}
use Rattle.gl_gen.specs.Bank.{waiting}
use Rattle.gl_gen.proofs.Ranges.{with_more}
use Rattle.gl_gen.proofs.code.add_waits.Goals as goal

pub loop-account-preserved : goal.loop-account-preserved
loop-account-preserved c =
    let account = c.loop-account.account in
    let more : c.extend_from_slice.new.self.items ≡ c.loop-account.code.items
    ++ waiting account = c.in_ok-extend_from_slice.ensures.items in
    more ∙ ap (λ front. front ++ waiting account) c.loop-account.invariant ∙ with_more waiting c.args.code.now.items account
