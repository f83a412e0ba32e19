use Rattle.std.proofs.Common.{ap, ◌∙◌, arith}
use Rattle.gl_bytecode.specs.Programs.{Function}
use Rattle.gl_bytecode.proofs.DepthSearch.{agreed, claim_within, entered_so, found_is, instr_is, too_few, too_many}
use Rattle.gl_bytecode.proofs.contents.Contents.admits.Goals as goal
use Rattle.gl_bytecode.proofs.contents.Contents.admits.Goals.{then-claim-needs-via-then-claim-needs, then-claim-needs-via-else-claim-needs+then-claim-gt-OPERANDS}

pub returns-then-claim-needs : goal.returns-then-claim-needs
returns-then-claim-needs c =
    let P = c.args.self.now in
    let F = c.args.function.now in
    let ds = c.args.depths.now.items in
    let cs = c.args.claims.now.items in
    let p = c.requires.passing in
    let within = claim_within P F ds cs c.args.claim p in
    let code = ap (λ (G : Function). G.code) c.function.view_is in
    let is = instr_is _ F.code c.args.claim.at c.index-instr.result.now code within.0 c.index-instr.ensures in
    let needs_is = c.needs-needs.ensures in
    elim c.then-claim-needs.branch [
      | then-claim-needs-via-then-claim-needs w ↦
          too_few P F ds cs c.args.claim c.index-instr.result.now p is (omega (arith, w.if-claim-needs.true))
      | then-claim-needs-via-else-claim-needs+then-claim-gt-OPERANDS w ↦
          too_many P F ds cs c.args.claim c.index-instr.result.now p is (omega (arith, w.if-claim-gt-OPERANDS.true))
    ]

pub index_mut-requires : goal.index_mut-requires
index_mut-requires c =
    let within = claim_within c.args.self.now c.args.function.now c.args.depths.now.items c.args.claims.now.items c.args.claim
    c.requires.passing in
    omega (arith, within.1, c.args.depths.now.ok.0)

pub claim_successors-requires : goal.claim_successors-requires
claim_successors-requires c =
    let within = claim_within c.args.self.now c.args.function.now c.args.depths.now.items c.args.claims.now.items c.args.claim
    c.requires.passing in
    omega (arith, within.0, c.requires.code)

pub returns-in-Some : goal.returns-in-Some
returns-in-Some c =
    let P = c.args.self.now in
    let F = c.args.function.now in
    let ds = c.args.depths.now.items in
    let cs = c.args.claims.now.items in
    let within = claim_within P F ds cs c.args.claim c.requires.passing in
    let is = found_is ds c.args.claim.at c.index-found.result.now within.1 c.index-found.ensures ∙ c.in-Some.is in
    agreed P F ds cs c.args.claim c.in-Some.depth c.requires.passing is

pub returns-in_ok-claim_successors-in-None : goal.returns-in_ok-claim_successors-in-None
returns-in_ok-claim_successors-in-None c =
    let P = c.args.self.now in
    let F = c.args.function.now in
    let ds = c.args.depths.now.items in
    let cs = c.args.claims.now.items in
    let p = c.requires.passing in
    let within = claim_within P F ds cs c.args.claim p in
    let none = found_is ds c.args.claim.at c.index-found.result.now within.1 c.index-found.ensures ∙ c.in-None.is in
    let code = ap (λ (G : Function). G.code) c.function.view_is in
    let is = instr_is _ F.code c.args.claim.at c.index-instr.result.now code within.0 c.index-instr.ensures in
    entered_so P F ds cs c.claim_successors.new.claims.items c.args.claim c.index-instr.result.now c.needs-needs.result c.gives.result p
    none is
    c.needs-needs.ensures c.gives.ensures (omega (arith, c.if-claim-needs.false)) (omega (arith, c.if-claim-gt-OPERANDS.false))
    c.in_ok-claim_successors-in-None.ensures
