use Rattle.gl_asm.specs.Texts.{text_read}
use Rattle.gl_asm.proofs.OneReading.{read_apart, read_faults, read_once}
use Rattle.gl_asm.proofs.laws.one_meaning.Goals as goal

pub returns-clause-apart : goal.returns-clause-apart
returns-clause-apart c = λ text. read_apart (text_read text) c.one_meaning.ensures.apart text

pub returns-clause-faults : goal.returns-clause-faults
returns-clause-faults c = λ text. read_faults (text_read text) c.one_meaning.ensures.faults text

pub returns-clause-texts : goal.returns-clause-texts
returns-clause-texts c = λ text. read_once (text_read text)
