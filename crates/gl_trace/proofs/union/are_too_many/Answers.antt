use Rattle.std.proofs.Common.{arith}
use Rattle.gl_model.specs.declared.limits.TheConstants.{TX_VARIABLES}
use Rattle.gl_trace.proofs.Unions.{short_fits}
use Rattle.gl_trace.proofs.union.are_too_many.Goals as goal

pub returns-then-len : goal.returns-then-len
returns-then-len c =
    let reads = c.len.ensures.count in
    let writes = c.len-2.ensures.count in
    let few = c.if-len.true in
    short_fits TX_VARIABLES c.args.writes.now c.args.reads.now (omega arith)
