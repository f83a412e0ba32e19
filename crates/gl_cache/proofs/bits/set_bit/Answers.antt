use Rattle.std.proofs.Common.{◌<◌, ◌/◌, length, arith}
use Rattle.gl_cache.proofs.WordBits.{HasBit-with_bit}
use Rattle.gl_cache.proofs.bits.set_bit.Goals as goal

pub returns : goal.returns
returns c j = let n : c.args.k / 64 < length c.args.words.now = omega arith in HasBit-with_bit c.args.words.now c.args.k n j
