use Rattle.std.proofs.Common.{rules, ◌≡◌, ◌+◌, ◌∙◌, ◌++◌, [], ◌∷◌, length, take, get_or, ap, sym, subst, arith, length-append, length-take-le}
use Rattle.std.proofs.lemmas.List.{take_more}
use Rattle.gl_model.specs.Trace.{Line, AreVerdicts}
use Rattle.gl_lines.specs.TraceStates.{AreSound}
use Rattle.gl_core.specs.Follows.{Follows}
use Rattle.gl_example.specs.Steps.{lines_of}
use Rattle.gl_example.proofs.Pushes.{lines_push}
use Rattle.gl_example.proofs.Sounds.{front_sound}
use Rattle.gl_example.proofs.judge_all.Goals as goal

pub loop-step-preserved : goal.loop-step-preserved
loop-step-preserved c =
    let old = c.loop-step.judged.items in
    let all = c.args.steps.now in
    let i = c.loop-step.step-index in
    let (ready, count, right, follows) = c.loop-step.invariant in
    let s = c.step-item.result in
    let verdict = c.in_ok-verdict.verdict in
    let items : c.push.new.self.items ≡ old ++ verdict ∷ [] = search rules in
    let here : get_or all i s ≡ s = search rules in
    let more : take (i + 1) all ≡ take i all ++ s ∷ [] = take_more all i s c.loop-step-test.true ∙ ap (λ x. take i all ++ x ∷ []) here in
    let before = lines_of (take i all) old in
    let line : Line = record { thread = s.0; item = s.1; judged = verdict } in
    let long : length (take i all) ≡ i = length-take-le i all (omega (arith, c.loop-step-test.true)) in
    let longer : length (take (i + 1) all) ≡ i + 1 = length-take-le (i + 1) all (omega (arith, c.loop-step-test.true)) in
    let total : length (old ++ verdict ∷ []) ≡ i + 1 = omega (arith, length-append old (verdict ∷ []), count) in
    let lines : lines_of (take (i + 1) all) (old ++ verdict ∷ []) ≡ before ++ line ∷ [] =
    ap (λ l. lines_of l (old ++ verdict ∷ [])) more ∙ lines_push (take i all) old s verdict (count ∙ sym long) in
    let sound : AreSound (before ++ line ∷ []) =
    subst AreSound lines (front_sound all (i + 1) (old ++ verdict ∷ []) c.requires.trace (total ∙ sym longer)) in
    let stepped = c.in_ok-verdict.ensures.right before sound right follows in
    rw items (
      c.step.ensures.ready,
      total,
      subst AreVerdicts (sym lines) stepped.0,
      subst (λ l. Follows l c.step.new.self) (sym lines) stepped.1,
    )
