use Rattle.std.proofs.Common.{[], ◌∷◌, ◌∙◌, List, Some, ap}
use Rattle.gl_bytecode.specs.Programs.{Draft, Function}
use Rattle.gl_gen.specs.Bank.{main_function, transfer_code, transfer_function}
use Rattle.gl_gen.specs.Drafts.{with_function}
use Rattle.gl_gen.proofs.Ranges.{map_with_more}
use Rattle.gl_gen.proofs.accounts.parts_of.Goals as goal

pub loop-account-preserved : goal.loop-account-preserved
loop-account-preserved c =
    let n = c.args.transfers in
    let account = c.loop-account.account in
    let draft : List Function → Draft = λ Fs. record { classes = (record { plain = 8; volatile = 0 }) ∷ []; functions = Fs; main = Some 0 }
    in
    c.in_ok-add_transfer.ensures ∙ ap (with_function 1 2 (transfer_code n account)) c.loop-account.invariant
    ∙ ap draft (map_with_more (transfer_function n) main_function account)
