use Rattle.gl_sites.proofs.OneSite.{not_both, note_unmade, one_site}
use Rattle.gl_sites.proofs.SomeSite.{some_maker}
use Rattle.gl_sites.proofs.laws.each_entry_has_one_maker.Goals as goal

pub returns-clause-some : goal.returns-clause-some
returns-clause-some c = some_maker

pub returns-clause-at_most_one : goal.returns-clause-at_most_one
returns-clause-at_most_one c = one_site

pub returns-clause-notes : goal.returns-clause-notes
returns-clause-notes c = note_unmade

pub returns-clause-apart : goal.returns-clause-apart
returns-clause-apart c = not_both
