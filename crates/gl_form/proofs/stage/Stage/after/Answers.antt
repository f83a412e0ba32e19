use Rattle.std.proofs.Common.{subst}
use Rattle.gl_model.specs.Entries.{seen}
use Rattle.gl_form.specs.Passed.{IsAtStage}
use Rattle.gl_form.specs.declared.stage.Stage.TheVariants.{Fresh, Running, Ended}
use Rattle.gl_form.proofs.Stages.{ended_other, ended_over, fresh_begin, fresh_trim, running_over}
use Rattle.gl_form.proofs.stage.Stage.after.Goals as goal

pub returns-in-Fresh : goal.returns-in-Fresh
returns-in-Fresh c = λ es i stage at. (let fresh : IsAtStage es i Fresh = subst (IsAtStage es i) c.in-Fresh.is stage in
    fresh_trim es i (seen c.args.entry.now) at fresh c.if-is_trim.ensures)

pub returns-in-Fresh-2 : goal.returns-in-Fresh-2
returns-in-Fresh-2 c =
    λ es i stage at. (let fresh : IsAtStage es i Fresh = subst (IsAtStage es i) c.in-Fresh-2.is stage in
    fresh_begin es i (seen c.args.entry.now) at fresh c.if-is_begin.ensures)

pub returns-in-Ended : goal.returns-in-Ended
returns-in-Ended c = λ es i stage at. (let ended : IsAtStage es i Ended = subst (IsAtStage es i) c.in-Ended.is stage in
    ended_over es i (seen c.args.entry.now) at ended c.if-is_over.ensures)

pub returns-in-Fresh-3-2 : goal.returns-in-Fresh-3-2
returns-in-Fresh-3-2 c =
    λ es i stage at. (let running : IsAtStage es i Running = subst (IsAtStage es i) c.in-Running.is stage in
    running_over es i (seen c.args.entry.now) at running c.if-not-is_over.ensures)

pub returns-in-Fresh-3-3 : goal.returns-in-Fresh-3-3
returns-in-Fresh-3-3 c = λ es i stage at. (let ended : IsAtStage es i Ended = subst (IsAtStage es i) c.in-Ended.is stage in
    ended_other es i (seen c.args.entry.now) at ended c.if-is_over.ensures)
