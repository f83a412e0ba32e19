-- No more threads are live than there are.
use Rattle.std.proofs.Common.{◌≤◌, List, Bool, length}
use Rattle.std.specs.Prelude.{count_by}
use Rattle.std.proofs.lemmas.List.Sums.{count_by-le-length}
use Rattle.gl_state.specs.declared.state.Stage.{Stage}

-- no more threads pass a test than there are
pub few_live : (p : Stage → Bool) (threads : List Stage) → count_by p threads ≤ length threads
few_live p threads = count_by-le-length p threads
