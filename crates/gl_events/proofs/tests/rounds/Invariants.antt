use Rattle.std.proofs.Common.{◌≡◌, ◌+◌, ◌*◌}
use Rattle.gl_draws.specs.Ties.{counted}
use Rattle.gl_events.specs.Answers.{MayCall}
use Rattle.gl_events.specs.declared.call.Call.TheVariants as call
use Rattle.gl_events.proofs.tests.rounds.Given as goal

abbrev pub invariant-loop : goal.invariant-loop
invariant-loop l = MayCall call.End l.shared l.pass × (counted l.pass.own.mine ≡ counted l.initial.pass.own.mine + 2 * l.counter)
    × (l.initial.pass.spare ≡ l.pass.spare + 2 * l.counter)
