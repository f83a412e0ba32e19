use Rattle.gl_vm.proofs.Work.{entries_bounded}
use Rattle.gl_vm.proofs.laws.entries_are_bounded.Goals as goal

pub returns : goal.returns
returns c = λ P steps t list p along. entries_bounded P steps t list p along
