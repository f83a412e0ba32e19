use Rattle.std.proofs.Common.{◌≡◌, ◌++◌, ◌∷◌, [], ℕ, ◌∙◌, ap, sym, subst, rules, Some}
use Rattle.std.specs.Prelude.{slice_get, string_bytes}
use Rattle.gl_model.specs.declared.row.Judged.TheVariants.{Raised}
use Rattle.gl_model.specs.TraceSteps.{IsLineItem}
use Rattle.gl_explain.specs.declared.told.Told.{Told}
use Rattle.gl_explain.specs.declared.told.Kept.{Kept}
use Rattle.gl_explain.specs.Explained.{Explains}
use Rattle.gl_explain.specs.Marks.{Tells}
use Rattle.gl_explain.specs.Races.{IsCulprit}
use Rattle.gl_names.specs.Names.{name_of}
use Rattle.gl_explain.specs.Told.{told_of}
use Rattle.gl_explain.specs.Written.{IsWritten}
use Rattle.gl_explain.proofs.Steps.{known_facts, told_on}
use Rattle.gl_explain.proofs.explainer.Explainer.take.Goals as goal

pub explain-requires-clause-lines : goal.explain-requires-clause-lines
explain-requires-clause-lines g c =
    let a = c.requires.awaits in
    let kept = c.args.self.now.kept.items in
    let t : Told = record { line = c.args.line; thread = c.args.thread; item = c.args.item.now; judged = c.in_ok-judged.judged } in
    let f = known_facts kept a.done t c.known_at-known.result c.args.self.now.detector c.step.new.self a.told.kept a.lines a.told.right
    a.told.follows a.told.are_kept c.in_ok-judged.ensures.right c.known_at-known.ensures in
    subst (λ ks. (i : ℕ) (k : Kept) → slice_get ks i ≡ Some k → IsLineItem k.told.item) (sym c.deref.ensures.value) f.near

pub explain-requires-clause-race : goal.explain-requires-clause-race
explain-requires-clause-race g c =
    let a = c.requires.awaits in
    let kept = c.args.self.now.kept.items in
    let t : Told = record { line = c.args.line; thread = c.args.thread; item = c.args.item.now; judged = c.in_ok-judged.judged } in
    let f = known_facts kept a.done t c.known_at-known.result c.args.self.now.detector c.step.new.self a.told.kept a.lines a.told.right
    a.told.follows a.told.are_kept c.in_ok-judged.ensures.right c.known_at-known.ensures in
    subst (λ ks. (var : ℕ) → t.judged ≡ Raised var → (i : ℕ) × IsCulprit (told_of ks) t var i) (sym c.deref.ensures.value) f.race

pub explain-requires-clause-tells : goal.explain-requires-clause-tells
explain-requires-clause-tells g c =
    let a = c.requires.awaits in
    let kept = c.args.self.now.kept.items in
    let t : Told = record { line = c.args.line; thread = c.args.thread; item = c.args.item.now; judged = c.in_ok-judged.judged } in
    let f = known_facts kept a.done t c.known_at-known.result c.args.self.now.detector c.step.new.self a.told.kept a.lines a.told.right
    a.told.follows a.told.are_kept c.in_ok-judged.ensures.right c.known_at-known.ensures in
    subst (λ ks. Tells ks t c.known_at-known.result) (sym c.deref.ensures.value) f.tells_so

pub returns : goal.returns
returns g c = record {
  told = λ done x lines.
      let kept = c.args.self.now.kept.items in
      let t : Told = record { line = c.args.line; thread = c.args.thread; item = c.args.item.now; judged = c.in_ok-judged.judged } in
      let k : Kept = record { told = t; own = c.own_at-own.result; mark = c.mark_of-mark.result } in
      let f = known_facts kept done t c.known_at-known.result c.args.self.now.detector c.step.new.self x.kept lines x.right x.follows
      x.are_kept c.in_ok-judged.ensures.right c.known_at-known.ensures in
      let items : c.push.new.self.items ≡ c.args.self.now.kept.items ++ k ∷ [] = search rules in
      let was : IsWritten (name_of c.args.self.now.writer.names) (told_of c.deref.result.now) (string_bytes c.args.self.now.writer.text) =
      subst (λ ks. IsWritten (name_of c.args.self.now.writer.names) (told_of ks) (string_bytes c.args.self.now.writer.text)) (sym
      c.deref.ensures.value)
      (subst (λ ds. IsWritten (name_of c.args.self.now.writer.names) ds (string_bytes c.args.self.now.writer.text))
      (sym x.kept) x.written) in
      let written : IsWritten (name_of c.explain.new.writer.names) (told_of kept ++ t ∷ []) (string_bytes c.explain.new.writer.text) =
      subst (λ ks. IsWritten (name_of c.explain.new.writer.names) (told_of ks ++ t ∷ []) (string_bytes c.explain.new.writer.text))
      c.deref.ensures.value
      (c.in_ok-explanation.ensures.written was) in (
        c.in_ok-judged.judged,
        told_on kept done t c.known_at-known.result c.own_at-own.result c.mark_of-mark.result c.args.self.now.detector
            (record { detector = c.step.new.self; kept = c.push.new.self; writer = c.explain.new.writer })
            x.kept x.follows x.are_kept f c.in_ok-judged.ensures.ready items c.own_at-own.ensures c.mark_of-mark.ensures written,
        subst (λ ds. Explains ds t c.in_ok-explanation.explanation) (ap told_of c.deref.ensures.value ∙ x.kept)
            c.in_ok-explanation.ensures.found,
      );
  names = c.in_ok-explanation.ensures.names;
}
