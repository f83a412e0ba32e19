use Rattle.std.proofs.Common.{◌≡◌, Some, map, sym, ◌∙◌}
use Rattle.gl_model.specs.Entries.{seen}
use Rattle.gl_bytecode.specs.Machine.{ask_of}
use Rattle.gl_follow.specs.Following.{quiet_for}
use Rattle.gl_follow.proofs.Driving.{told_quietly}
use Rattle.gl_follow.proofs.Quiet.{quiet_is}
use Rattle.gl_follow.proofs.replay.Replay.goes_quietly.Goals as goal

pub returns-in-Some-clause-moved : goal.returns-in-Some-clause-moved
returns-in-Some-clause-moved c =
    let p = c.args.self.now in
    let list = map seen c.args.list.now in
    let chosen : quiet_for p list (ask_of p.config.stage) ≡ Some c.in-Some.reply = sym c.quiet.ensures ∙ c.in-Some.is in
    record {
      reply = c.in-Some.reply;
      chosen = chosen;
      first =
          told_quietly c.args.program.now p c.tell.new.self c.in-Some.reply
          (quiet_is p list (ask_of p.config.stage) c.in-Some.reply c.keeps.ensures chosen)
          c.tell.ensures.told;
    }
