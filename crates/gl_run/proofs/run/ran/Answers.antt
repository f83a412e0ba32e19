use Rattle.std.proofs.Common.{subst}
use Rattle.gl_model.specs.Kept.{IsRecord}
use Rattle.gl_run.proofs.run.ran.Goals as goal

-- what the workers answer is the closed table of a run of the program
pub returns-clause-answer : goal.returns-clause-answer
returns-clause-answer g c =
    c.page_of.ensures.answer c.args.assembled.program c.args.assembled.inputs (record {
      is = subst IsRecord c.record.ensures.is c.keeps.ensures;
      lawful = c.in_ok-sealed.ensures.lawful;
      sparing = c.in_ok-sealed.ensures.sparing;
      ring = c.in_ok-sealed.ensures.ring;
      trims = c.record.ensures.trims;
    })
