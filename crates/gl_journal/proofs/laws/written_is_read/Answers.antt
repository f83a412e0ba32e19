use Rattle.gl_journal.proofs.BackRecord.{text_means, text_means_one}
use Rattle.gl_journal.proofs.laws.written_is_read.Goals as goal

pub returns-clause-text : goal.returns-clause-text
returns-clause-text c = text_means

pub returns-clause-only : goal.returns-clause-only
returns-clause-only c = text_means_one
