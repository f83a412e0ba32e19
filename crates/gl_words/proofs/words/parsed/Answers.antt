use Rattle.std.proofs.Common.{◌≡◌, ◌∙◌, ap, map, refl, string_bytes, subst, true}
use Rattle.std.proofs.lemmas.Result.{IfOk-weaker}
use Rattle.clap.specs.Words.{App, FailsBy, HasMatchesOf, fault_of, is_simple_and_free}
use Rattle.clap.proofs.OnLiterals.{clap_on_literals}
use Rattle.gl_words.specs.App.{options_app}
use Rattle.gl_words.proofs.words.parsed.Goals as goal

is_free : is_simple_and_free options_app ≡ true
unfolding clap_on_literals
is_free = refl

pub returns : goal.returns
returns c =
    let parse = c.try_get_matches_from in
    let is = c.in_ok-command.ensures in
    let words = map string_bytes c.args.words.now in
    record {
      exact = subst (λ (a : App). FailsBy (fault_of a words) parse.result) is (parse.ensures.kinds (ap is_simple_and_free is ∙ is_free));
      matches = IfOk-weaker parse.result _ _ (λ m has. subst (λ (a : App). HasMatchesOf a words m) is has) parse.ensures.matches;
    }
