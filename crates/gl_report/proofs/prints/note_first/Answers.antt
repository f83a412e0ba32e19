use Rattle.std.proofs.Common.{◌∙◌, sym, rules}
use Rattle.gl_model.specs.Entries.{seen}
use Rattle.gl_report.proofs.Firsts.{no_event, one_noted, past_end}
use Rattle.gl_report.proofs.prints.note_first.Goals as goal

pub returns-in-Some-get_mut-clause-firsts : goal.returns-in-Some-get_mut-clause-firsts
returns-in-Some-get_mut-clause-firsts c =
    λ es are.
    one_noted (λ e. seen e.now) es c.args.firsts.now.items are c.args.entry c.get_or_insert.result.now c.in-Some.at (sym c.position.ensures
    ∙ c.in-Some.is) (search rules)
    (search rules)

pub returns-in_default-get_mut-clause-firsts : goal.returns-in_default-get_mut-clause-firsts
returns-in_default-get_mut-clause-firsts c =
    λ es are. past_end (λ e. seen e.now) es c.args.firsts.now.items are (seen c.args.entry.now) c.in-Some.at (sym c.position.ensures
    ∙ c.in-Some.is) (search rules)

pub returns-in_default-clause-firsts : goal.returns-in_default-clause-firsts
returns-in_default-clause-firsts c =
    λ es are. no_event (λ e. seen e.now) es c.args.firsts.now.items are (seen c.args.entry.now) (sym c.position.ensures ∙ c.in_default.is)
