use Rattle.std.proofs.Common.{◌≡◌, ◌∙◌, arith, length, subst, sym}
use Rattle.std.proofs.lemmas.Option.{slice_get-get_or}
use Rattle.gl_raised.specs.Judged.{AreLasts, AreLeast}
use Rattle.gl_raised.proofs.Lasting.{threads_of}
use Rattle.gl_raised.proofs.judge.least_races.Goals as goal

pub loop-access-init : goal.loop-access-init
loop-access-init c = record {
  variables = c.in_ok-lasts.ensures.long;
  claims = c.in_ok-least.ensures.long;
  lasts = c.in_ok-lasts.ensures.none c.args.accesses.now;
  least = c.in_ok-least.ensures.none c.args.known.now c.args.accesses.now;
}

pub loop-access-preserved : goal.loop-access-preserved
loop-access-preserved c =
    let us = c.args.accesses.now in
    let known = c.args.known.now in
    let i = c.loop-access.access-index in
    let so_far = c.loop-access.invariant in
    let here = slice_get-get_or us i _ c.loop-access-test.true in
    let racy = c.is_racy-racy.ensures us i (threads_of (length known) us c.requires.within)
    (subst (AreLasts us i) (sym c.deref.ensures.value) so_far.lasts) in record {
      variables = c.note_last.ensures.long ∙ so_far.variables;
      claims = c.note_racy.ensures.long ∙ so_far.claims;
      lasts = c.note_last.ensures.lasts us i here so_far.lasts;
      least = c.note_racy.ensures.least known us i here racy so_far.least;
    }

pub returns-clause-least : goal.returns-clause-least
returns-clause-least c =
    let all : c.loop-access.access-index ≡ length c.args.accesses.now =
    (let a = c.loop-access-test.false in let b = c.loop-access.auto.access-index-end in omega arith) in
    subst (λ n. AreLeast c.args.known.now c.args.accesses.now n c.loop-access.least.items) all c.loop-access.invariant.least
