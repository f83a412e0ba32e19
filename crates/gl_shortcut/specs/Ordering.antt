-- What a yes means: that an access is ordered before a next one, or that both are commits.
use Rattle.std.specs.Prelude.{◌≡◌, List, IsSome, drop, ◌⊎◌, Bool}
use Rattle.gl_model.specs.declared.event.Stamp.{Stamp}
use Rattle.gl_model.specs.declared.row.Info.{Info}
use Rattle.gl_model.specs.declared.row.Question.{Question}
use Rattle.gl_model.specs.Infos.{InfoFor, QuestionOf}
use Rattle.gl_model.specs.Locksets.{Access}
use Rattle.gl_model.specs.Machine.{Setting}
use Rattle.gl_model.specs.Next.{HappensBeforeNext}

-- the question is of a next access after h
abbrev pub IsOfNext : Setting → List Stamp → Question → Type 0
IsOfNext setting h q = QuestionOf setting h q q.thread q.write q.commit

-- the access happens before the question's, or both are commits
abbrev pub IsOrderedBefore : List Stamp → Access → Question → Type 0
IsOrderedBefore h a q = ∥ HappensBeforeNext h a q.thread q.commit ⊎ (IsSome a.variables × IsSome q.commit) ∥₁

-- in the list h: whichever access of it the Info stands for is ordered before the question's, where that is of a next access
abbrev pub OrdersIn : Setting → List Stamp → Info → Question → Type 0
OrdersIn setting h info q = (a : Access) (write : Bool) → InfoFor setting h info a write → IsOfNext setting h q → IsOrderedBefore h a q

-- in every list
abbrev pub Orders : Info → Question → Type 0
Orders info q = (setting : Setting) (h : List Stamp) → OrdersIn setting h info q

-- in every list that goes on from the Info's position with these events
abbrev pub OrdersOver : Info → Question → List Stamp → Type 0
OrdersOver info q window = (setting : Setting) (h : List Stamp) → drop info.pos h ≡ window → OrdersIn setting h info q
