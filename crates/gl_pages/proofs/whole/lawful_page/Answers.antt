use Rattle.std.proofs.Common.{◌≡◌, ◌++◌, ◌∙◌, [], ap, subst, length, rules, ◌==◌, if◌then◌else◌}
use Rattle.std.specs.List.{flat_map}
use Rattle.gl_explain.specs.Texts.{ending_text}
use Rattle.gl_names.specs.Names.{name_of}
use Rattle.gl_pages.specs.Explained.{AreExplained}
use Rattle.gl_pages.specs.LawfulRun.{run_of}
use Rattle.gl_pages.specs.Texts.{explanation_text}
use Rattle.gl_pages.proofs.Pieces.{says_program}
use Rattle.gl_pages.proofs.whole.lawful_page.Goals as goal

pub new-requires-clause-text : goal.new-requires-clause-text
new-requires-clause-text c =
    let a = c.args.audited.now in
    says_program c.args.input.now c.program_text.result.now a.program a.inputs a.steps a.record c.requires.meaning c.program_text.ensures

pub returns : goal.returns
returns c =
    let a = c.args.audited.now in
    let run = run_of c.program_text.result.now a in
    let es = c.in_ok-explained.explained.items in
    let races : c.len-races.result ≡ length es = search rules in
    let nothing : c.new-text.result.items ≡ [] = c.new-text.ensures.items in
    let all : c.push_all.new.out.items ≡ flat_map (explanation_text (name_of c.args.input.now)) es =
    c.in_ok-push_all.ensures ∙ ap (λ l. l ++ flat_map (explanation_text (name_of c.in_ok-names.names)) c.deref.result.now) nothing
    ∙ ap (λ xs. flat_map (explanation_text (name_of c.in_ok-names.names)) xs) c.deref.ensures.value
    ∙ ap (λ text. flat_map (explanation_text (name_of text)) es) c.in_ok-names.ensures in
    record {
      run = run;
      says = record {
        inputs = a.inputs;
        meaning = c.requires.meaning;
        program_text = c.program_text.ensures;
        lawful = c.requires.lawful;
      };
      explained = es;
      are = subst (λ r. AreExplained r es) c.in_ok-run.ensures c.in_ok-explained.ensures;
      status_is = c.status_of.ensures ∙ ap (λ n. if n == 0 then 0 else 6) races;
      bytes_are = c.in_ok-push_ending.ensures ∙ ap (λ l. l ++ ending_text c.len-races.result) all
          ∙ ap (λ n. flat_map (explanation_text (name_of c.args.input.now)) es ++ ending_text n) races;
    }
