use Rattle.std.proofs.Common.{take, arith}
use Rattle.gl_trace.proofs.QuickLemmas.{digits_front, stop_behind, stop_shorter}
use Rattle.gl_trace.proofs.quick.number_before.Goals as goal

pub returns-clause-value : goal.returns-clause-value
returns-clause-value c =
    let d = digits_front c.args.text.now c.digits-count.result.0 c.digits-count.result.1 c.args.most (omega arith)
    c.digits-count.ensures.few c.digits-count.ensures.within
    c.digits-count.ensures.all c.digits-count.ensures.value (omega arith) in (
      take c.digits-count.result.0 c.args.text.now,
      record {
        whole = stop_behind c.args.text.now c.in_ok-rest.rest.now c.digits-count.result.0 c.args.stop c.in_ok-rest.ensures;
        is_word = d.0;
      },
      d.1,
      c.digits-count.ensures.all,
    )

pub returns-clause-shorter : goal.returns-clause-shorter
returns-clause-shorter c = omega (
  arith,
  stop_shorter c.args.text.now c.in_ok-rest.rest.now c.digits-count.result.0 c.args.stop
      c.in_ok-rest.ensures,
)
