use Rattle.std.proofs.Common.{◌≡◌, ◌<◌, true, false, sym, ap, ◌∙◌, subst, refl, rules, is_some}
use Rattle.gl_model.specs.declared.limits.TheConstants.{TX_VARIABLES}
use Rattle.gl_bytecode.specs.Runs.{Progress, knows, touched}
use Rattle.gl_follow.proofs.replay.Replay.note_look.Goals as goal

pub look-requires-clause-room : goal.look-requires-clause-room
look-requires-clause-room c =
    let runs : c.in_tx.result ≡ true = search rules in
    let not : c.knows.result ≡ false = search rules in
    let lives : is_some c.args.self.now.config.attempt ≡ true = ap (λ (p : Progress). is_some p.config.attempt) (sym c.self.view_is)
    ∙ sym c.in_tx.ensures ∙ runs in
    let unknown : knows c.args.self.now c.args.var ≡ false = ap (λ (p : Progress). knows p c.args.var) (sym c.self.view_is)
    ∙ sym c.knows.ensures ∙ not in
    subst (λ (p : Progress). touched p < TX_VARIABLES) (sym c.self.view_is)
    (c.requires.room.look c.args.var c.in-Value.value refl c.in-Value.is lives unknown)
