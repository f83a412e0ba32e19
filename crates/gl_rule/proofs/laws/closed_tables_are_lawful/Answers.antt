use Rattle.gl_rule.proofs.Bounding.{table_bounded}
use Rattle.gl_rule.proofs.Ending.{table_lawful}
use Rattle.gl_rule.proofs.Trimming.{trimmed, by_segments}
use Rattle.gl_rule.proofs.laws.closed_tables_are_lawful.Goals as goal

pub returns-clause-lawful : goal.returns-clause-lawful
returns-clause-lawful c = λ key s id v rule here h rising. table_lawful key rule.0 s id v rule.1 here h.held h.all h.done rising

pub returns-clause-trims : goal.returns-clause-trims
returns-clause-trims c = λ key s id v rule here h. trimmed key s id v rule here h

pub returns-clause-segments : goal.returns-clause-segments
returns-clause-segments c = by_segments

pub returns-clause-bounded : goal.returns-clause-bounded
returns-clause-bounded c = λ key s id v cells rule here h. table_bounded key s id v rule here h cells
