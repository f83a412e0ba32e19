use Rattle.std.proofs.Common.{rules, inl, sym, ◌∙◌}
use Rattle.gl_events.proofs.Acts.{may_leave, may_rel}
use Rattle.gl_events.proofs.look.exit.Goals as goal

pub returns-then-owner-thread : goal.returns-then-owner-thread
returns-then-owner-thread c =
    let m = may_leave c.args.state.now c.args.thread c.args.monitor c.in-Some.owner c.in-Some.field-0-1 (sym c.owner.ensures
    ∙ c.in-Some.is) (search rules) (c.requires.sound.entered c.args.monitor (c.in-Some.owner, c.in-Some.field-0-1) (sym c.owner.ensures
    ∙ c.in-Some.is)) in (
      inl c.does.ensures,
      may_rel c.args.shared.now.key.setting c.args.thread c.args.state.now c.args.monitor c.does.result.act
          c.does.result.value c.does.ensures.0 c.does.ensures.1 c.requires.there m,
    )
