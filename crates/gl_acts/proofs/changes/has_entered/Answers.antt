use Rattle.std.proofs.Common.{◌≡◌, ◌∙◌, sym, ap, refl, Some}
use Rattle.std.specs.Prelude.{nat_lt}
use Rattle.gl_state.specs.Entering.{monitor_of}
use Rattle.gl_acts.proofs.Applied.{entered_where}
use Rattle.gl_acts.proofs.changes.has_entered.Goals as goal

pub returns-then-owner-thread : goal.returns-then-owner-thread
returns-then-owner-thread c =
    let is : monitor_of c.args.state.now c.args.monitor ≡ Some (c.args.thread, c.in-Some.depth) =
    sym c.owner.ensures ∙ c.in-Some.is ∙ ap (λ t. Some (t, c.in-Some.depth)) c.if-owner-thread.true in
    entered_where c.args.thread c.args.monitor c.in-Some.depth c.args.state.now is (nat_lt 0 c.in-Some.depth) refl
