use Rattle.std.proofs.Common.{sym, ◌∙◌}
use Rattle.gl_words.specs.declared.options.NumberOption.TheVariants.{Size}
use Rattle.gl_run.proofs.options.load_of.Goals as goal

-- the size that is given is within its limits, as each number is
pub returns-in-Some-clause-valid : goal.returns-in-Some-clause-valid
returns-in-Some-clause-valid c = (c.requires Size c.in-Some.size (sym c.number.ensures ∙ c.in-Some.is), c.workers_of.ensures.within)
