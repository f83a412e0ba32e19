use Rattle.std.proofs.Common.{◌≡◌, ◌<◌, ◌++◌, ◌∙◌, length, slice_index_or, slice_get, take, ap, sym, arith, append_assoc, pos, string_bytes, subst, inl, inr}
use Rattle.std.proofs.lemmas.Bool.{cases_lt}
use Rattle.std.proofs.lemmas.Option.{get_or_from_slice_get, slice_get_within}
use Rattle.std.proofs.lemmas.List.{get_or_default}
use Rattle.gl_bytecode.specs.declared.instr.Instr.{Instr}
use Rattle.gl_bytecode.specs.declared.instr.Instr.TheVariants.{Push}
use Rattle.gl_asm.specs.Listable.{IsTyped}
use Rattle.gl_asm.specs.Listing.{each_from, code_line}
use Rattle.gl_asm.specs.Words.{operand_of}
use Rattle.gl_asm.proofs.ListingLemmas.{each_more}
use Rattle.gl_asm.proofs.listing.push_code.Goals as goal

pub loop-at-preserved : goal.loop-at-preserved
loop-at-preserved c =
    let code = c.args.code.now in
    let at = c.loop-at.at in
    let text = code_line c.args.main code c.args.catches.now in
    let instr : Instr = slice_index_or code at (Push (pos 0)) in
    let below : at < length code = omega arith in
    let here : slice_index_or code at instr ≡ instr = get_or_default code at instr (Push (pos 0)) below in (
      c.in_ok-push_place.ensures.text
          ∙ ap (λ s. s ++ text at instr) c.loop-at.invariant.0
          ∙ append_assoc (string_bytes c.args.out.now) (each_from text 0 (take at code)) (text at instr)
          ∙ ap (λ s. string_bytes c.args.out.now ++ s) (sym (each_more text code at instr below here)),
      λ k i before there. elim (cases_lt k at) [
        | inl earlier ↦ c.loop-at.invariant.1 k i earlier there
        | inr past ↦
            let last : k ≡ at = omega (arith, before, past) in
            let same : instr ≡ i = get_or_from_slice_get code at i (Push (pos 0)) (ap (slice_get code) (sym last) ∙ there) in
            subst (λ (j : Instr). IsTyped (operand_of j)) same c.in_ok-push_place.ensures.typed
      ],
    )

pub returns-clause-typed : goal.returns-clause-typed
returns-clause-typed c = λ k i there. c.loop-at.invariant.1 k i (omega (arith, slice_get_within c.args.code.now k i there)) there
