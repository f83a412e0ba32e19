use Rattle.gl_gen.proofs.BankIsRight.{bank_is_faultless}
use Rattle.gl_gen.proofs.laws.the_bank_has_no_fault.Goals as goal

pub returns : goal.returns
returns c = bank_is_faultless
