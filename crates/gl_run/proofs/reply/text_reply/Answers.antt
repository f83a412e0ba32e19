use Rattle.std.proofs.Common.{rules, ◌≡◌, ◌<◌, ℕ, None, List, length, IfOk, IfSome}
use Rattle.std.specs.Io.KnownBytes.{Consumes}
use Rattle.gl_run.specs.Texts.{AnswersLonger}
use Rattle.gl_run.specs.Output.{usage}
use Rattle.gl_run.specs.declared.status.TheConstants.{NO_COMMAND}
use Rattle.gl_run.proofs.LongPrograms.{long_reply, mapped, usage_reply}
use Rattle.gl_run.proofs.SaidLines.{more_if_ok}
use Rattle.gl_run.proofs.reply.text_reply.Goals as goal

pub returns-in-Err-TooLong-clause-page : goal.returns-in-Err-TooLong-clause-page
returns-in-Err-TooLong-clause-page g c =
    let left = g.S.Source.left c.args.source.now in
    let now = g.S.Source.left c.read_all.new.source in
    let most = c.most.result in
    let long : IfSome left (λ xs. most < length xs) = search rules in
    let over : (bytes : List ℕ) × (most < length bytes) × Consumes left now bytes = search rules in
    let longer : IfOk c.map_err-in-Err-TooLong.result (λ p. AnswersLonger c.in-Some.command p.status p.text.items p.kept) =
    mapped _ _ c.answer_longer.result c.map_err-in-Err-TooLong.result c.map_err-in-Err-TooLong.ensures.cases
    c.map_err-in-Err-TooLong.ensures.variant
    c.answer_longer.ensures.answer in
    more_if_ok _ _ c.map_err-in-Err-TooLong.result
    (λ p answer. long_reply c.args.keep c.args.asked c.in-Some.command most left now over.0 p c.in-Some.is c.most.ensures over.1 over.2
    long answer) longer

pub returns-in-None-clause-page : goal.returns-in-None-clause-page
returns-in-None-clause-page g c =
    let status : IfOk c.map_err.result (λ p. p.status ≡ NO_COMMAND) = search rules in
    let text : IfOk c.map_err.result (λ p. p.text.items ≡ usage) = search rules in
    let kept : IfOk c.map_err.result (λ p. p.kept ≡ None) = search rules in
    usage_reply c.args.keep c.args.asked (g.S.Source.left c.args.source.now) c.map_err.result c.in-None.is status text kept
