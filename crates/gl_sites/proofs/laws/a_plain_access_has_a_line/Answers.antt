use Rattle.gl_sites.proofs.PlainSites.{plain_has_line}
use Rattle.gl_sites.proofs.laws.a_plain_access_has_a_line.Goals as goal

pub returns : goal.returns
returns c = plain_has_line
