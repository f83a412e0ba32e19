use Rattle.std.proofs.Common.{◌≡◌, ◌∙◌, ap₂}
use Rattle.std.proofs.lemmas.Result.{IfOk-weaker}
use Rattle.clap.specs.Words.{app_of, with_rule}
use Rattle.gl_words.specs.App.{bare_app, number_rule}
use Rattle.gl_words.specs.declared.options.NumberOption.TheVariants.{Workers, Steps}
use Rattle.gl_words.proofs.words.command.Goals as goal

pub returns : goal.returns
returns c =
    let one : app_of c.in_ok-arg.field-0 ≡ with_rule bare_app (number_rule Workers) =
    c.in_ok-arg.ensures.shape c.number_argument.ensures.local ∙ ap₂ with_rule c.bare_command.ensures c.number_argument.ensures.rule in
    let two : app_of c.in_ok-arg-2.field-0 ≡ with_rule (with_rule bare_app (number_rule Workers)) (number_rule Steps) =
    c.in_ok-arg-2.ensures.shape c.number_argument-2.ensures.local ∙ ap₂ with_rule one c.number_argument-2.ensures.rule in
    let three = c.in_ok-arg-3.ensures.shape c.number_argument-3.ensures.local ∙ ap₂ with_rule two c.number_argument-3.ensures.rule in
    let four = c.in_ok-arg-4.ensures.shape c.number_argument-4.ensures.local ∙ ap₂ with_rule three c.number_argument-4.ensures.rule in
    let five = c.in_ok-arg-5.ensures.shape c.number_argument-5.ensures.local ∙ ap₂ with_rule four c.number_argument-5.ensures.rule in
    IfOk-weaker c.arg-6.result _ _ (λ r adds. adds.shape c.journal_argument.ensures.local
    ∙ ap₂ with_rule five c.journal_argument.ensures.rule)
    c.arg-6.ensures
