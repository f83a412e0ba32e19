use Rattle.std.proofs.Common.{◌≡◌, [], ◌∷◌, ◌++◌, Some, None, take, slice_get, refl, ap, sym, ◌∙◌, append_assoc, rules}
use Rattle.gl_asm.proofs.ListingLemmas.{one_more, no_more, past_of}
use Rattle.gl_asm.proofs.assembling.give_all.Goals as goal

pub loop-value-preserved : goal.loop-value-preserved
loop-value-preserved c =
    let values = c.args.values.now in
    let i = c.loop-value.i in
    let v = c.in-Some.value in
    let there : slice_get values i ≡ Some v = sym c.in-Some.ensures in
    let more = one_more values (take i values) i v there refl in
    let pushed : c.push.new.self ≡ c.loop-value.inputs ++ v ∷ [] = search rules in (
      more.0,
      pushed ∙ ap (λ l. l ++ v ∷ []) c.loop-value.invariant.1 ∙ append_assoc c.args.inputs.now (take i values) (v ∷ [])
          ∙ ap (λ l. c.args.inputs.now ++ l) more.1,
    )

pub returns : goal.returns
returns c =
    let values = c.args.values.now in
    let i = c.loop-value.i in
    let none : slice_get values i ≡ None = search rules in
    c.loop-value.invariant.1 ∙ ap (λ l. c.args.inputs.now ++ l) (no_more values (take i values) i (past_of values i none) refl)
