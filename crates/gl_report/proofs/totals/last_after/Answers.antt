use Rattle.std.proofs.Common.{◌≡◌, ◌∙◌, ◌++◌, ap, arith, sym, rules}
use Rattle.std.proofs.lemmas.Int.{ints}
use mir.Syntax.{w64}
use mir.Val.{SFits, of_z, to_z}
use Rattle.gl_model.specs.Report.{last_or_zero}
use Rattle.gl_report.proofs.Summing.{last_is}
use Rattle.gl_report.proofs.totals.last_after.Goals as goal

pub returns-in-Some : goal.returns-in-Some
returns-in-Some c = λ values is.
    let value = c.in-Some.value in
    let fits : SFits w64 value = search rules in
    let same : to_z w64 (of_z w64 value) ≡ value = omega (arith, ints) in
    same ∙ sym (last_is values value) ∙ ap (λ vs. last_or_zero (values ++ vs)) c.in-Some.ensures
