use Rattle.std.proofs.Common.{◌≡◌, ◌<◌, ◌++◌, ◌∙◌, length, arith, ap, string_bytes, rules, subst, inl, inr}
use Rattle.std.proofs.lemmas.Bool.{cases_lt}
use Rattle.std.proofs.lemmas.Option.{slice_get_past}
use Rattle.gl_bytecode.specs.Programs.{function_at}
use Rattle.gl_asm.specs.Code.{code_of, text_of}
use Rattle.gl_asm.specs.Listable.{AreTyped}
use Rattle.gl_asm.specs.Listing.{function_text}
use Rattle.gl_asm.proofs.ListingLemmas.{function_there, none_typed, text_more}
use Rattle.gl_asm.proofs.listing.push_functions.Goals as goal

pub loop-f-preserved : goal.loop-f-preserved
loop-f-preserved c =
    let P = c.args.program.now in
    let main = c.args.main in
    let f = c.loop-f.f in
    let below : f < length P.functions = omega arith in
    let there = function_there P.functions main f below in
    let more : string_bytes c.push_function.new.out ≡ string_bytes c.loop-f.out ++ text_of main f (function_at P f) = search rules in (
      text_more (function_text main) P.functions f there.0 (string_bytes c.args.out.now) (string_bytes c.loop-f.out)
          (string_bytes c.push_function.new.out) there.1
          c.loop-f.invariant.0 (more ∙ ap (λ o. string_bytes c.loop-f.out ++ text_of main f o) there.1),
      λ k before. elim (cases_lt k f) [
        | inl earlier ↦ c.loop-f.invariant.1 k earlier
        | inr past ↦
            let last : f ≡ k = omega (arith, before, past) in
            subst (λ g. AreTyped (code_of (function_at P g))) last c.in_ok-push_function.ensures.typed
      ],
    )

pub returns-clause-typed : goal.returns-clause-typed
returns-clause-typed c =
    let P = c.args.program.now in
    λ f. elim (cases_lt f (length P.functions)) [
      | inl below ↦ c.loop-f.invariant.1 f (omega (arith, below))
      | inr past ↦ none_typed (function_at P f) (slice_get_past P.functions f past)
    ]
