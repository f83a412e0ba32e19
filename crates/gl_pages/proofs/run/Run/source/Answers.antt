use Rattle.std.proofs.Common.{◌≡◌, map, Some, None, sym, ◌∙◌, ap, subst}
use Rattle.gl_places.specs.Places.{seen}
use Rattle.gl_sites.specs.declared.making.Maker.TheVariants.{Instruction, NoInstruction, Note}
use Rattle.gl_sites.specs.Recorded.{maker_at}
use Rattle.gl_pages.specs.LawfulRun.{run_of}
use Rattle.gl_pages.specs.Explained.{IsSource}
use Rattle.gl_pages.proofs.Sources.{by_instruction, by_none, by_note, not_there}
use Rattle.gl_pages.proofs.run.Run.source.Goals as goal

pub returns-in-Some-Instruction : goal.returns-in-Some-Instruction
returns-in-Some-Instruction c =
    let run = run_of c.self.inside.text.now c.self.inside.audited.now in
    let makers = map (λ v. v.items) c.self.inside.makers.items in
    let is : maker_at makers (seen c.args.place) ≡ Some (Instruction c.in-Some-Instruction.site) =
    ap (λ ms. maker_at (map (λ v. v.items) ms) (seen c.args.place)) (sym c.deref.ensures.value) ∙ sym c.maker_at.ensures
    ∙ c.in-Some-Instruction.is ∙ ap Some c.in-Some-Instruction.field-0-is in
    subst (λ r. IsSource r (seen c.args.place) c.line_of.result) c.self.view_is
    (by_instruction run makers c.self.invariant (seen c.args.place) c.in-Some-Instruction.site c.line_of.result is
    (c.line_of.ensures run.program c.self.invariant.is.inputs c.self.invariant.is.says))

pub returns-in-Some-NoInstruction : goal.returns-in-Some-NoInstruction
returns-in-Some-NoInstruction c =
    let run = run_of c.self.inside.text.now c.self.inside.audited.now in
    let makers = map (λ v. v.items) c.self.inside.makers.items in
    let is : maker_at makers (seen c.args.place) ≡ Some NoInstruction =
    ap (λ ms. maker_at (map (λ v. v.items) ms) (seen c.args.place)) (sym c.deref.ensures.value) ∙ sym c.maker_at.ensures
    ∙ c.in-Some-NoInstruction.is ∙ ap Some c.in-Some-NoInstruction.field-0-is in
    subst (λ r. IsSource r (seen c.args.place) None) c.self.view_is (by_none run makers c.self.invariant (seen c.args.place) is)

pub returns-in-Some-Note : goal.returns-in-Some-Note
returns-in-Some-Note c =
    let run = run_of c.self.inside.text.now c.self.inside.audited.now in
    let makers = map (λ v. v.items) c.self.inside.makers.items in
    let is : maker_at makers (seen c.args.place) ≡ Some Note =
    ap (λ ms. maker_at (map (λ v. v.items) ms) (seen c.args.place)) (sym c.deref.ensures.value) ∙ sym c.maker_at.ensures
    ∙ c.in-Some-Note.is ∙ ap Some c.in-Some-Note.field-0-is in
    subst (λ r. IsSource r (seen c.args.place) None) c.self.view_is (by_note run makers c.self.invariant (seen c.args.place) is)

pub returns-in-None : goal.returns-in-None
returns-in-None c =
    let run = run_of c.self.inside.text.now c.self.inside.audited.now in
    let makers = map (λ v. v.items) c.self.inside.makers.items in
    let is : maker_at makers (seen c.args.place) ≡ None =
    ap (λ ms. maker_at (map (λ v. v.items) ms) (seen c.args.place)) (sym c.deref.ensures.value) ∙ sym c.maker_at.ensures ∙ c.in-None.is in
    subst (λ r. IsSource r (seen c.args.place) None) c.self.view_is (not_there run makers c.self.invariant (seen c.args.place) is)
