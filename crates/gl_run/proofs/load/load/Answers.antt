use Rattle.std.proofs.Common.{subst, []}
use Rattle.gl_gen.specs.Bank.{bank_program}
use Rattle.gl_model.specs.Kept.{IsRecord}
use Rattle.gl_run.specs.Runs.{IsRunOf}
use Rattle.gl_run.proofs.load.load.Goals as goal

-- what the workers answer is the closed table of a run of the bank
pub returns-clause-answer : goal.returns-clause-answer
returns-clause-answer g c =
    let asked = c.args.asked in
    let program = c.in_ok-program.program in
    let inputs = c.empty.result in
    let options = c.bank_options-options.result in
    let made = c.in_ok-sealed.sealed in
    let run : IsRunOf program inputs options made = record {
      is = subst IsRecord c.record.ensures.is c.keeps.ensures;
      lawful = c.in_ok-sealed.ensures.lawful;
      sparing = c.in_ok-sealed.ensures.sparing;
      ring = c.in_ok-sealed.ensures.ring;
      trims = c.record.ensures.trims;
    } in
    let of_bank : IsRunOf (bank_program asked.size) inputs options made =
    subst (λ p. IsRunOf p inputs options made) c.in_ok-program.ensures.program run in
    let of_none : IsRunOf (bank_program asked.size) [] options made =
    subst (λ xs. IsRunOf (bank_program asked.size) xs options made) c.empty.ensures of_bank in
    c.page_of.ensures.answer asked (subst (λ o. IsRunOf (bank_program asked.size) [] o made) c.bank_options-options.ensures.value of_none)
