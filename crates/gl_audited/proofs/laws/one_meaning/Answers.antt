use Rattle.gl_audited.proofs.CutLines.{one_cut}
use Rattle.gl_audited.proofs.Meanings.{faults_one, texts_apart, texts_one}
use Rattle.gl_audited.proofs.laws.one_meaning.Goals as goal

pub returns-clause-cut : goal.returns-clause-cut
returns-clause-cut c = one_cut

pub returns-clause-apart : goal.returns-clause-apart
returns-clause-apart c = texts_apart c.one_meaning.ensures.apart c.one_meaning-2.ensures.apart

pub returns-clause-faults : goal.returns-clause-faults
returns-clause-faults c = faults_one c.one_meaning.ensures.apart c.one_meaning.ensures.faults c.one_meaning-2.ensures.faults

pub returns-clause-texts : goal.returns-clause-texts
returns-clause-texts c = texts_one c.one_meaning.ensures.texts c.one_meaning-2.ensures.texts
