use Rattle.std.proofs.Common.{sym, refl}
use Rattle.gl_model.specs.Machine.{trace_setting}
use Rattle.gl_judge.proofs.Walked.{take_rest}
use Rattle.gl_compare.proofs.rows.is_race.Goals as goal

pub returns-in-Race : goal.returns-in-Race
returns-in-Race c next stand =
    let k = c.judge.ensures.fails trace_setting c.args.events.now (sym (take_rest c.args.events.now c.lower-from.result), next) stand in
    (λ t. k.0 c.in-Race.is, λ f. refl)

pub returns-in-Ordered : goal.returns-in-Ordered
returns-in-Ordered c next stand =
    let k = c.judge.ensures.fails trace_setting c.args.events.now (sym (take_rest c.args.events.now c.lower-from.result), next) stand in
    (λ t. absurd (cc), λ f. absurd (let r = k.1 f in let o = c.in-Ordered.is in cc))
