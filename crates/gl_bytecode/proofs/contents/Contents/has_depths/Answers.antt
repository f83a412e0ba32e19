use Rattle.std.proofs.Common.{◌≡◌, ap, ◌∙◌, length, arith, rules}
use Rattle.gl_bytecode.specs.Programs.{Function}
use Rattle.gl_bytecode.proofs.DepthSearch.{begins, ends, first_claims}
use Rattle.gl_bytecode.proofs.contents.Contents.has_depths.Goals as goal

pub loop-claim-init : goal.loop-claim-init
loop-claim-init c =
    let F = c.args.function.now in
    let code : c.len.result ≡ length F.code =
    omega (arith, c.len.ensures, c.function.inside.code.ok.0, ap (λ (G : Function). length G.code) c.function.view_is) in
    let catches = ap (λ (G : Function). G.catches) c.function.view_is in
    begins c.args.self.now F c.in_ok-depths.depths.items c.in_ok-claims.claims.items c.len.result c.requires.named c.requires.ended code
    (c.in_ok-depths.ensures.items_if_clones_equal (λ y e. search rules)) (c.in_ok-claims.ensures
    ∙ ap first_claims (c.deref.ensures.value ∙ catches))

pub returns : goal.returns
returns c =
    let none : length c.loop-claim.claims.items ≡ 0 = omega (arith, c.in_default.ensures.cases, c.loop-claim.claims.ok.0) in
    ends c.args.self.now c.args.function.now c.loop-claim.depths.items c.loop-claim.claims.items c.loop-claim.invariant none
