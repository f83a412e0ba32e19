use Rattle.std.proofs.Common.{◌≡◌, ◌+◌, length, drop, map, refl, sym, ap, ◌∙◌, subst, arith, inl, inr, rules, length-append, ◌∷◌, []}
use Rattle.gl_model.specs.Entries.{seen}
use Rattle.gl_bytecode.specs.Fits.{Fits}
use Rattle.gl_bytecode.specs.Machine.{fresh}
use Rattle.gl_bytecode.specs.Runs.{Progress}
use Rattle.gl_follow.specs.Following.{Stops}
use Rattle.gl_follow.specs.Steps.{GoesQuietly}
use Rattle.gl_follow.proofs.Turning.{turn_falls}
use Rattle.gl_sites.specs.Makers.{AreMakers, PassesBy}
use Rattle.gl_sites.proofs.MadeBy.{AreMadeTo, all_made, goes_by, goes_quietly, none_made, rest_is}
use Rattle.gl_sites.proofs.making.makers.Goals as goal

pub loop-maker-init : goal.loop-maker-init
loop-maker-init c =
    let P = c.args.program.now in
    let es = map seen c.args.list.now in
    let made = c.in_ok-replay.ensures.outset in
    let fits : Fits P (fresh P c.args.thread c.args.steps) = subst (λ (r : Progress). Fits P r.config) made c.in_ok-replay.ensures.fits in
    subst (λ ms. AreMadeTo P c.args.steps c.args.thread es c.in_ok-replay.replay ms) (sym c.new-makers.ensures.items)
    (subst (λ (r : Progress). AreMadeTo P c.args.steps c.args.thread es r _) (sym made)
    (none_made P c.args.steps c.args.thread es fits c.requires.right))

pub loop-maker-preserved-in-Quietly : goal.loop-maker-preserved-in-Quietly
loop-maker-preserved-in-Quietly c =
    let P = c.args.program.now in
    let es = map seen c.args.list.now in
    let n = length c.loop-maker.makers.items in
    let rest = rest_is c.args.list.now c.split_at.result.1.now c.len.result n c.split_at.ensures.back (search rules) in
    let goes : GoesQuietly P c.loop-maker.replay (drop n es) c.go_on.new.replay =
    subst (λ l. GoesQuietly P c.loop-maker.replay l c.go_on.new.replay) rest c.in-Quietly.ensures.turned in
    goes_quietly P c.args.steps c.args.thread es c.loop-maker.replay c.go_on.new.replay c.loop-maker.makers.items c.loop-maker.invariant
    c.in-Quietly.ensures.few goes
    c.in-Quietly.ensures.can

pub loop-maker-smaller-in-Quietly : goal.loop-maker-smaller-in-Quietly
loop-maker-smaller-in-Quietly c =
    let P = c.args.program.now in
    let es = map seen c.args.list.now in
    let n = length c.loop-maker.makers.items in
    let rest = rest_is c.args.list.now c.split_at.result.1.now c.len.result n c.split_at.ensures.back (search rules) in
    let goes : GoesQuietly P c.loop-maker.replay (drop n es) c.go_on.new.replay =
    subst (λ l. GoesQuietly P c.loop-maker.replay l c.go_on.new.replay) rest c.in-Quietly.ensures.turned in
    let falls = turn_falls P c.args.steps c.args.thread es c.loop-maker.replay c.go_on.new.replay n 0 c.loop-maker.invariant.at
    (inl (refl, goes)) in
    omega (arith, falls)

pub loop-maker-preserved : goal.loop-maker-preserved
loop-maker-preserved c =
    let P = c.args.program.now in
    let es = map seen c.args.list.now in
    let n = length c.loop-maker.makers.items in
    let rest = rest_is c.args.list.now c.split_at.result.1.now c.len.result n c.split_at.ensures.back (search rules) in
    let passes : PassesBy P c.loop-maker.replay (drop n es) c.go_on.new.replay c.in-By.maker =
    subst (λ l. PassesBy P c.loop-maker.replay l c.go_on.new.replay c.in-By.maker) rest c.in-By.ensures.turned in
    subst (λ ms. AreMadeTo P c.args.steps c.args.thread es c.go_on.new.replay ms) (sym c.in_ok-push-in-By.ensures.items)
    (goes_by P c.args.steps c.args.thread es c.loop-maker.replay c.go_on.new.replay c.loop-maker.makers.items c.in-By.maker
    c.loop-maker.invariant c.in-By.ensures.few passes
    c.in-By.ensures.can)

pub loop-maker-smaller : goal.loop-maker-smaller
loop-maker-smaller c =
    let P = c.args.program.now in
    let es = map seen c.args.list.now in
    let n = length c.loop-maker.makers.items in
    let rest = rest_is c.args.list.now c.split_at.result.1.now c.len.result n c.split_at.ensures.back (search rules) in
    let passes : PassesBy P c.loop-maker.replay (drop n es) c.go_on.new.replay c.in-By.maker =
    subst (λ l. PassesBy P c.loop-maker.replay l c.go_on.new.replay c.in-By.maker) rest c.in-By.ensures.turned in
    let falls = turn_falls P c.args.steps c.args.thread es c.loop-maker.replay c.go_on.new.replay n 1 c.loop-maker.invariant.at
    (inr (refl, passes.first)) in
    let longer : length c.push.new.self.items ≡ n + 1 = ap length c.in_ok-push-in-By.ensures.items
    ∙ length-append c.loop-maker.makers.items (c.in-By.maker ∷ []) in
    omega (arith, falls, longer)

pub returns-in-NoFurther : goal.returns-in-NoFurther
returns-in-NoFurther c =
    let P = c.args.program.now in
    let es = map seen c.args.list.now in
    let n = length c.loop-maker.makers.items in
    let rest = rest_is c.args.list.now c.split_at.result.1.now c.len.result n c.split_at.ensures.back (search rules) in
    let stops : Stops P c.loop-maker.replay (drop n es) = subst (λ l. Stops P c.loop-maker.replay l) rest c.in-NoFurther.ensures.turned.0 in
    subst (AreMakers P c.args.steps c.args.thread es) (sym c.in_ok-push-in-NoFurther.ensures.items)
    (all_made P c.args.steps c.args.thread es c.loop-maker.replay c.loop-maker.makers.items c.loop-maker.invariant
    c.in-NoFurther.ensures.few stops c.requires.over c.requires.runs)
