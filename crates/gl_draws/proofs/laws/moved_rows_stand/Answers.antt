use Rattle.gl_model.specs.Machine.{start}
use Rattle.gl_draws.proofs.MovedRows.{row_moved, some_fails_moved}
use Rattle.gl_draws.proofs.Owners.{state_at, least_owned}
use Rattle.gl_draws.proofs.laws.moved_rows_stand.Goals as goal

pub returns-clause-rows : goal.returns-clause-rows
returns-clause-rows c = row_moved

pub returns-clause-tests : goal.returns-clause-tests
returns-clause-tests c = some_fails_moved

pub returns-clause-owners : goal.returns-clause-owners
returns-clause-owners c = λ setting h now allowed k t upto.
    let at = state_at setting (start setting) now h k t allowed upto in
    (at.state, at.run, λ held l. least_owned at.state now t held at.owns l)
