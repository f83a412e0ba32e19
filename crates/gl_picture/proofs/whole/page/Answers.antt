use Rattle.std.proofs.Common.{◌∙◌, ◌++◌, ap, subst, sym, refl}
use Rattle.gl_names.specs.Names.{name_of}
use Rattle.gl_explain.specs.Told.{told_of}
use Rattle.gl_picture.specs.Answers.{IsAnswered}
use Rattle.gl_picture.specs.Texts.{picture_text}
use Rattle.gl_picture.proofs.Narrow.{are_narrow}
use Rattle.gl_picture.proofs.whole.page.Goals as goal

pub picture_of-requires-clause-narrow : goal.picture_of-requires-clause-narrow
picture_of-requires-clause-narrow c = are_narrow (told_of c.args.kept.now) c.requires.clean

pub returns-in_ok-push_picture-in-Some : goal.returns-in_ok-push_picture-in-Some
returns-in_ok-push_picture-in-Some c =
    let f = c.in-Some.first in
    let p = c.in_ok-picture-in-Some.picture in
    subst (λ o. IsAnswered c.args.input.now (told_of c.args.kept.now) o 6 c.push_picture.new.out.items) (sym c.in-Some.is) (record {
      picture = p;
      right = c.in_ok-picture-in-Some.ensures;
      status_is = refl;
      bytes_are = c.in_ok-push_picture-in-Some.ensures
          ∙ ap (λ bs. bs ++ picture_text (name_of c.in_ok-names-in-Some.names) f.explanation p) c.new-text.ensures.items
          ∙ ap (λ text. picture_text (name_of text) f.explanation p) c.in_ok-names-in-Some.ensures;
    })
