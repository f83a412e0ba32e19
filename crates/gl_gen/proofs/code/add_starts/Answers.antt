use Rattle.std.proofs.Common.{◌≡◌, ◌++◌, ◌∙◌, ap}
use Rattle.gl_gen.specs.Bank.{starting}
use Rattle.gl_gen.proofs.Ranges.{with_more}
use Rattle.gl_gen.proofs.code.add_starts.Goals as goal

pub loop-account-preserved : goal.loop-account-preserved
loop-account-preserved c =
    let account = c.loop-account.account in
    let more : c.extend_from_slice.new.self.items ≡ c.loop-account.code.items
    ++ starting account = c.in_ok-extend_from_slice.ensures.items in
    more ∙ ap (λ front. front ++ starting account) c.loop-account.invariant ∙ with_more starting c.args.code.now.items account
