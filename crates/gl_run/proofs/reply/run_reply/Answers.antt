use Rattle.std.proofs.Common.{rules, ◌<◌, ℕ, Some, List, length, IfOk, IfSome, refl}
use Rattle.std.specs.Io.KnownBytes.{Consumes}
use Rattle.gl_asm.specs.declared.limits.TheConstants.{LONGEST}
use Rattle.gl_run.specs.Texts.{AnswersLonger}
use Rattle.gl_run.specs.declared.words.Command.TheVariants as commands
use Rattle.gl_run.proofs.LongPrograms.{long_reply, mapped}
use Rattle.gl_run.proofs.SaidLines.{more_if_ok}
use Rattle.gl_run.proofs.reply.run_reply.Goals as goal

pub returns-in-Err-TooLong-clause-page : goal.returns-in-Err-TooLong-clause-page
returns-in-Err-TooLong-clause-page g c = λ keep.
    let command = commands.Run c.args.asked in
    let left = g.S.Source.left c.args.source.now in
    let now = g.S.Source.left c.read_all.new.source in
    let long : IfSome left (λ xs. LONGEST < length xs) = search rules in
    let over : (bytes : List ℕ) × (LONGEST < length bytes) × Consumes left now bytes = search rules in
    let longer : IfOk c.map_err-in-Err-TooLong.result (λ p. AnswersLonger command p.status p.text.items p.kept) =
    mapped _ _ c.answer_longer.result c.map_err-in-Err-TooLong.result c.map_err-in-Err-TooLong.ensures.cases
    c.map_err-in-Err-TooLong.ensures.variant
    c.answer_longer.ensures.answer in
    more_if_ok _ _ c.map_err-in-Err-TooLong.result
    (λ p answer. long_reply keep (Some command) command LONGEST left now over.0 p refl refl over.1 over.2 long answer) longer
