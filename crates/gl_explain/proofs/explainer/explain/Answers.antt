use Rattle.std.proofs.Common.{ap, sym, subst, ◌++◌, ◌∷◌, []}
use Rattle.std.specs.Prelude.{string_bytes}
use Rattle.gl_trace.specs.Verdicts.{is_race}
use Rattle.gl_names.specs.Names.{name_of}
use Rattle.gl_explain.specs.Told.{told_of}
use Rattle.gl_explain.specs.Written.{IsWritten}
use Rattle.gl_explain.proofs.OneMore.{written_more}
use Rattle.gl_explain.proofs.explainer.explain.Goals as goal

pub returns-in_ok-push_explanation-in-Raised-clause-written : goal.returns-in_ok-push_explanation-in-Raised-clause-written
returns-in_ok-push_explanation-in-Raised-clause-written c = λ w.
    subst (IsWritten (name_of c.args.writer.now.names) (told_of c.args.kept.now ++ c.args.told.now ∷ [])) (sym
    c.in_ok-push_explanation-in-Raised.ensures)
    (written_more (name_of c.args.writer.now.names) (told_of c.args.kept.now) c.args.told.now c.in_ok-explanation-in-Raised.explanation
    (string_bytes c.args.writer.now.text)
    (ap is_race c.in-Raised.is) c.in_ok-explanation-in-Raised.ensures.of c.in_ok-explanation-in-Raised.ensures.right w)
