use Rattle.std.proofs.Common.{◌≡◌, ◌==◌}
use Rattle.std.specs.Prelude.{if◌then◌else◌, slice_index_or}
use Rattle.gl_rule.specs.Levels.{levels_of}
use Rattle.gl_events.specs.Answers.{IsDone}
use Rattle.gl_events.specs.Calls.{HasCode, act_of, value_of, not_owner}
use Rattle.gl_events.specs.declared.call.Call.TheVariants as call
use Rattle.gl_events.specs.declared.done.Done.{Done}
use Rattle.gl_events.proofs.ExitCodes.{exit_code, ok_both}
use Rattle.gl_events.proofs.events.exit.Goals as goal

pub returns-clause-owner : goal.returns-clause-owner
returns-clause-owner c =
    let z = c.args.shared.now in
    let p = c.args.pass.now in
    let q = c.event.new.pass in
    let o = c.args.monitor in
    ok_both (λ (d : Done). HasCode (call.Exit o) d) (λ (d : Done). IsDone z p q (act_of (call.Exit o) d) (value_of (call.Exit o) d) d)
    (λ (d : Done). d.code ≡ (if slice_index_or (levels_of p.own.mine) o 0 == 0 then not_owner else 0))
    (λ d code is. exit_code z p q o d c.requires.there code is) c.event.result c.event.ensures.code c.event.ensures.done
