use Rattle.gl_audit.specs.Findings.{ClausesAreApart, FirstPlacesAreOne}
use Rattle.gl_audit.proofs.Apart.{apart, once}
use Rattle.gl_audit.proofs.OneFinding.{one_finding}
use Rattle.gl_audit.proofs.laws.one_finding.Goals as goal

pub returns : goal.returns
returns c =
    let apart' : ClausesAreApart =
    apart c.form_is_exact.ensures.form c.faults_are_exact.ensures.listed c.faults_are_exact.ensures.numbered c.runs_do_not_fail.ensures
    c.records_are_legal_where_words_hold.ensures c.the_first_wrong_word_is_one.ensures in
    let once' : FirstPlacesAreOne = once c.one_act_fails_first.ensures c.the_first_wrong_word_is_one.ensures in
    record {
      apart = apart';
      once = once';
      finding =
          λ P inputs steps made x y kept.
          one_finding P inputs steps made (λ k d below. apart' P inputs steps made k d kept below)
          (λ k d e below. once' P inputs steps made k d e kept below) x y;
    }
