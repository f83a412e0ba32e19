use Rattle.std.proofs.Common.{◌≡◌, drop, map, sym, ap, ◌∙◌, subst}
use Rattle.gl_model.specs.Entries.{seen}
use Rattle.gl_bytecode.specs.Fits.{Fits}
use Rattle.gl_bytecode.specs.Machine.{fresh}
use Rattle.gl_bytecode.specs.Runs.{Progress}
use Rattle.gl_follow.specs.Following.{Stops}
use Rattle.gl_follow.specs.Steps.{IsAt, Turns}
use Rattle.gl_follow.proofs.Turning.{begins, drop_map, turn_falls, turned}
use Rattle.gl_follow.proofs.follow.follow.Goals as goal

pub loop-used-init : goal.loop-used-init
loop-used-init c =
    let P = c.args.program.now in
    let es = map seen c.args.list.now in
    let made = c.in_ok-replay.ensures.outset in
    let fits : Fits P (fresh P c.args.thread c.args.steps) = subst (λ (r : Progress). Fits P r.config) made c.in_ok-replay.ensures.fits in
    subst (λ (r : Progress). IsAt P c.args.steps c.args.thread es r 0) (sym made)
    (begins P c.args.steps c.args.thread es fits c.requires.right)

pub loop-used-preserved : goal.loop-used-preserved
loop-used-preserved c =
    let P = c.args.program.now in
    let es = map seen c.args.list.now in
    let i = c.loop-used.place in
    let rest = ap (map seen) c.split_at.ensures.back ∙ drop_map seen i c.args.list.now in
    let turns : Turns P c.loop-used.replay (drop i es) c.turn.new.replay c.in-Some.used =
    subst (λ l. Turns P c.loop-used.replay l c.turn.new.replay c.in-Some.used) rest c.in-Some.ensures.turned in
    turned P c.args.steps c.args.thread es c.loop-used.replay c.turn.new.replay i c.in-Some.used c.loop-used.invariant
    c.in-Some.ensures.few turns
    c.in-Some.ensures.can

pub loop-used-smaller : goal.loop-used-smaller
loop-used-smaller c =
    let P = c.args.program.now in
    let es = map seen c.args.list.now in
    let i = c.loop-used.place in
    let rest = ap (map seen) c.split_at.ensures.back ∙ drop_map seen i c.args.list.now in
    let turns : Turns P c.loop-used.replay (drop i es) c.turn.new.replay c.in-Some.used =
    subst (λ l. Turns P c.loop-used.replay l c.turn.new.replay c.in-Some.used) rest c.in-Some.ensures.turned in
    turn_falls P c.args.steps c.args.thread es c.loop-used.replay c.turn.new.replay i c.in-Some.used c.loop-used.invariant turns

pub returns : goal.returns
returns c =
    let P = c.args.program.now in
    let es = map seen c.args.list.now in
    let i = c.loop-used.place in
    let rest = ap (map seen) c.split_at.ensures.back ∙ drop_map seen i c.args.list.now in
    let still : c.turn.new.replay ≡ c.loop-used.replay = c.in_default.ensures.same in
    let stops : Stops P c.loop-used.replay (drop i es) = subst (λ l. Stops P c.loop-used.replay l) rest c.in_default.ensures.turned in
    record {
      at = subst (λ (r : Progress). IsAt P c.args.steps c.args.thread es r i) (sym still) c.loop-used.invariant;
      few = c.keeps.ensures;
      stops = subst (λ (r : Progress). Stops P r (drop i es)) (sym still) stops;
    }
