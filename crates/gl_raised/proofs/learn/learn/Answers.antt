use Rattle.std.proofs.Common.{◌≡◌, ◌∙◌, arith, length, subst, sym}
use Rattle.std.proofs.lemmas.Option.{slice_get-get_or}
use Rattle.gl_raised.specs.Earlier.{ClaimsKnow, VariablesKnow}
use Rattle.gl_raised.proofs.learn.learn.Goals as goal

pub loop-access-preserved : goal.loop-access-preserved
loop-access-preserved c =
    let rows = c.args.rows.now in
    let us = c.args.accesses.now in
    let i = c.loop-access.access-index in
    let so_far = c.loop-access.invariant in
    let here = slice_get-get_or us i _ c.loop-access-test.true in record {
      variables = c.hand_on.ensures.long ∙ so_far.variables;
      claims = c.learn_one.ensures.long ∙ so_far.claims;
      learned = c.hand_on.ensures.learned us i here so_far.learned;
      known = c.learn_one.ensures.known rows us i c.args.known.now.items here
          (subst (VariablesKnow rows us i) (sym c.deref.ensures.value) so_far.learned) so_far.known;
    }

pub returns-clause-known : goal.returns-clause-known
returns-clause-known c =
    let all : c.loop-access.access-index ≡ length c.args.accesses.now =
    (let a = c.loop-access-test.false in let b = c.loop-access.auto.access-index-end in omega arith) in
    subst (λ n. ClaimsKnow c.args.rows.now c.args.accesses.now n c.args.known.now.items c.loop-access.known.items) all
    c.loop-access.invariant.known
