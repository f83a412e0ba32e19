use Rattle.std.proofs.Common.{map, sym, ap, ◌∙◌, subst}
use Rattle.gl_model.specs.Entries.{seen}
use Rattle.gl_follow.specs.Steps.{IsWhole}
use Rattle.gl_follow.proofs.Turning.{drop_map, unwhole_fails, whole_runs}
use Rattle.gl_follow.proofs.follow.list_fault.Goals as goal

pub returns-then-is_whole : goal.returns-then-is_whole
returns-then-is_whole c =
    let es = map seen c.args.list.now in
    let p = c.in_ok-replay.replay in
    let i = c.in_ok-replay.place in
    let rest = ap (map seen) c.split_at.ensures.back ∙ drop_map seen i c.args.list.now in
    whole_runs c.args.program.now c.args.steps c.args.thread es p i c.in_ok-replay.ensures c.requires.over
    (subst (λ l. IsWhole p l) rest c.if-is_whole.ensures)

pub returns : goal.returns
returns c =
    let es = map seen c.args.list.now in
    let p = c.in_ok-replay.replay in
    let i = c.in_ok-replay.place in
    let rest = ap (map seen) c.split_at.ensures.back ∙ drop_map seen i c.args.list.now in
    unwhole_fails c.args.program.now c.args.steps c.args.thread es p i c.in_ok-replay.ensures c.requires.over
    (λ w. c.if-is_whole.ensures (subst (λ l. IsWhole p l) (sym rest) w))
