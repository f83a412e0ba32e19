use Rattle.std.proofs.Common.{rules, arith, ◌≡◌, ◌+◌, ◌<◌, ◌≤◌, ◌++◌, length, length-append, take}
use Rattle.std.specs.Io.KnownBytes.{Consumes}
use Rattle.std.proofs.KnownBytes.{Consumes-trans}
use Rattle.std.proofs.lemmas.List.{length-take-le}
use Rattle.gl_io.proofs.whole.read_all.Goals as goal

pub returns-then-most-len-clause-over : goal.returns-then-most-len-clause-over
returns-then-most-len-clause-over g c =
    let count = c.in_ok-count.count in
    let out = c.loop-out.out.items in
    let piece = take count c.read.new.buf in
    let taken : Consumes (g.S.Source.left c.loop-out.source) (g.S.Source.left c.read.new.self) piece = search rules in
    let within : count ≤ length c.read.new.buf = search rules in
    let size : length piece ≡ count = length-take-le count c.read.new.buf within in
    let room : c.args.most < length out + count = omega arith in
    λ is. (out ++ piece, omega (arith, length-append out piece), Consumes-trans _ _ _ _ _ c.loop-out.invariant.1 taken)
