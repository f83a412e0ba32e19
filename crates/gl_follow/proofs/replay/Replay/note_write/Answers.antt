use Rattle.std.proofs.Common.{◌≡◌, ◌||◌, true, sym, ap, ◌∙◌, subst, refl, rules, is_some, nat_lt}
use Rattle.gl_model.specs.declared.limits.TheConstants.{TX_VARIABLES}
use Rattle.gl_bytecode.specs.Runs.{Progress, knows, touched}
use Rattle.gl_follow.proofs.replay.Replay.note_write.Goals as goal

pub write-requires-clause-room : goal.write-requires-clause-room
write-requires-clause-room c =
    let runs : c.in_tx.result ≡ true = search rules in
    let lives : is_some c.args.self.now.config.attempt ≡ true = ap (λ (p : Progress). is_some p.config.attempt) (sym c.self.view_is)
    ∙ sym c.in_tx.ensures ∙ runs in
    subst (λ (p : Progress). (knows p c.args.var || nat_lt (touched p) TX_VARIABLES) ≡ true) (sym c.self.view_is)
    (c.requires.room.write c.args.var c.args.value refl c.in-Go.is lives)
