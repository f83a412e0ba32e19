use Rattle.gl_flat.proofs.OneHistory.{first_word_law}
use Rattle.gl_flat.proofs.laws.the_first_wrong_word_is_one.Goals as goal

pub returns : goal.returns
returns c = first_word_law
