use Rattle.gl_form.proofs.Exact.{formed_exactly, one_first}
use Rattle.gl_form.proofs.laws.form_is_exact.Goals as goal

pub returns-clause-form : goal.returns-clause-form
returns-clause-form c = formed_exactly

pub returns-clause-one : goal.returns-clause-one
returns-clause-one c = one_first
