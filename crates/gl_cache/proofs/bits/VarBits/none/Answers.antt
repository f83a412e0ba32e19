use Rattle.gl_cache.proofs.WordBits.{no_bit}
use Rattle.gl_cache.proofs.bits.VarBits.none.Goals as goal

pub returns : goal.returns
returns c x has = no_bit 16 x has
