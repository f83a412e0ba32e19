use Rattle.gl_flat.proofs.OneHistory.{legal_law}
use Rattle.gl_flat.proofs.laws.records_are_legal_where_words_hold.Goals as goal

pub returns : goal.returns
returns c = legal_law
