use Rattle.std.proofs.Common.{◌≡◌, ◌++◌, ◌∙◌, List, [], ◌∷◌, ap, sym, refl, length, arith}
use Rattle.std.specs.List.{count_by, flat_map}
use Rattle.std.proofs.lemmas.Grind.{common_steps}
use Rattle.gl_model.specs.declared.row.Judged.{Judged}
use Rattle.gl_trace.specs.Judging.{judged_lines}
use Rattle.gl_trace.specs.TraceLine.{TraceLine}
use Rattle.gl_trace.specs.Verdicts.{is_race, races_line, verdict_line, verdicts_said}
use Rattle.gl_trace.proofs.verdicts.verdict_text.Goals as goal

-- where there is one for each line, what is said of the lines is all that is said
all_said : (ls : List TraceLine) (js : List Judged) → length js ≡ length ls → verdicts_said (judged_lines ls js) ≡ js
all_said [] [] same = refl
all_said [] (j ∷ js) same = absurd (omega arith)
all_said (l ∷ ls) [] same = absurd (omega arith)
all_said (l ∷ ls) (j ∷ js) same = ap (λ x. j ∷ x) (all_said ls js (omega arith))

pub returns : goal.returns
returns c =
    let trace = c.args.trace.now in
    let judged = c.args.judged.now in
    let text : c.into_bytes.result.items ≡ flat_map (λ p. verdict_line p.0.0 p.1) (judged_lines trace judged)
    ++ races_line (count_by is_race judged) = grind (arith, common_steps) in
    text ∙ ap (λ js. flat_map (λ p. verdict_line p.0.0 p.1) (judged_lines trace judged) ++ races_line (count_by is_race js))
    (sym (all_said trace judged c.requires.count))
