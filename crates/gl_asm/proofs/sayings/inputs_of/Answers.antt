use Rattle.std.proofs.Common.{◌≡◌, ◌-◌, ◌+◌, length, not, is_some, true, slice_get, ap, arith, rules}
use Rattle.gl_model.specs.declared.limits.TheConstants.{INPUTS}
use Rattle.gl_text.specs.Text.{words}
use Rattle.gl_asm.specs.Additions.{rest_of}
use Rattle.gl_asm.proofs.Values.{in_room}
use Rattle.gl_asm.proofs.sayings.inputs_of.Goals as goal

pub values_of-requires : goal.values_of-requires
values_of-requires c =
    let ws = words c.args.line.now.text in
    let room : not (is_some (slice_get ws (INPUTS - c.args.have + 1))) ≡ true = search rules in
    let same : length c.rest_of.result ≡ length (rest_of ws) = ap length c.rest_of.ensures in
    omega (arith, in_room ws (INPUTS - c.args.have) room)

pub returns-clause-placed : goal.returns-clause-placed
returns-clause-placed c =
    let ws = words c.args.line.now.text in
    let room : not (is_some (slice_get ws (INPUTS - c.args.have + 1))) ≡ true = search rules in
    let same : length c.rest_of.result ≡ length (rest_of ws) = ap length c.rest_of.ensures in
    λ functions. omega (arith, in_room ws (INPUTS - c.args.have) room, c.in_ok-values.ensures.count)
