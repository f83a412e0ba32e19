use Rattle.std.proofs.Common.{ℕ, ◌<◌, ◌*◌, ◌+◌, ◌^◌, arith, rules, w64, get_or}
use Rattle.std.specs.Int.{trailing_zeros}
use Rattle.std.proofs.lemmas.Nat.Bits.{bit_at-trailing_zeros}
use Rattle.gl_cache.proofs.WordBits.{IsLeast, least_there, none_more}
use Rattle.gl_cache.proofs.bits.VarBits.least.Goals as goal

pub returns-then-word-ne0 : goal.returns-then-word-ne0
returns-then-word-ne0 c =
    let w : ℕ = get_or c.args.self.now.words c.loop-k.k 0 in
    let some : 0 < w = omega (arith, c.if-word-ne0.true) in
    let fits : w < 2 ^ 64 = search rules in
    let z = bit_at-trailing_zeros w64 w some fits in
    let least : IsLeast c.args.self.now.words (64 * c.loop-k.k + trailing_zeros w64 w) =
    least_there c.args.self.now.words c.loop-k.k (trailing_zeros w64 w) z.0 z.1 z.2 c.loop-k.invariant in
    let near : trailing_zeros w64 w < 64 = z.0 in
    (omega (arith, c.loop-k-test.true), least.there, least.least)

pub loop-k-preserved : goal.loop-k-preserved
loop-k-preserved c y below has = none_more c.args.self.now.words c.loop-k.k c.if-word-ne0.false c.loop-k.invariant y below has

pub loop-k-init : goal.loop-k-init
loop-k-init c y below has = omega arith
