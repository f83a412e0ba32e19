use Rattle.std.proofs.Common.{◌≡◌, ◌∙◌, ◌++◌, ap, rules}
use Rattle.std.specs.Prelude.{count_by, string_bytes, ◌==◌, if◌then◌else◌}
use Rattle.std.specs.List.{flat_map}
use Rattle.gl_names.specs.Names.{name_of}
use Rattle.gl_trace.specs.Verdicts.{is_race}
use Rattle.gl_explain.specs.Answers.{races_in}
use Rattle.gl_explain.specs.Texts.{explanation_text, ending_text}
use Rattle.gl_explain.specs.declared.told.Kept.{Kept}
use Rattle.gl_explain.proofs.OneMore.{races_kept}
use Rattle.gl_explain.proofs.explainer.Explainer.page.Goals as goal
use Rattle.gl_explain.proofs.explainer.Explainer.page.Goals.{then-races-eq0, else-races-eq0}

pub returns : goal.returns
returns c = λ done x.
    let n = c.races-races.result in
    let count : n ≡ races_in done = c.races-races.ensures ∙ ap (count_by (λ (k : Kept). is_race k.told.judged)) c.deref.ensures.value
    ∙ races_kept c.args.self.kept.items ∙ ap races_in x.kept in
    let status : c.if-races-eq0.result ≡ (if n == 0 then 0 else 6) = elim c.if-races-eq0.branch [
      | then-races-eq0 w ↦ search rules
      | else-races-eq0 w ↦ search rules
    ] in
    let text = flat_map (explanation_text (name_of c.args.self.writer.names)) x.written.explained in
    let items : c.into_bytes.result.items ≡ string_bytes c.push_ending.new.out = ap (λ v. v.items) c.into_bytes.ensures.value in
    record {
      right = x.right;
      explained = x.written.explained;
      are = x.written.are;
      status_is = status ∙ ap (λ r. if r == 0 then 0 else 6) count;
      bytes_are = items ∙ c.in_ok-push_ending.ensures ∙ ap (λ bs. bs ++ ending_text n) x.written.text
          ∙ ap (λ r. text ++ ending_text r) count;
    }
