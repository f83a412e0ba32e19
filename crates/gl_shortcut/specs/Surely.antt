-- Where cuts say yes for sure.
use Rattle.gl_model.specs.declared.row.Info.{Info}
use Rattle.gl_model.specs.declared.row.Question.{Question}
use Rattle.gl_shortcut.specs.declared.cuts.Cuts.{Cuts}
use Rattle.gl_shortcut.specs.declared.cuts.ShortCut.TheVariants.{Early}
use Rattle.gl_shortcut.specs.Asking.{HoldsAt}
use Rattle.gl_shortcut.specs.Keeping.{IsOneOf}

-- the Sure of some early cut among them holds
abbrev pub SayYesSurely : {X : _} {Y : _} {f : _} {g : _} → Cuts X Y f g → Info → Question → Type 0
SayYesSurely cuts info q = (c : _) × IsOneOf (Early c) cuts.first cuts.second cuts.third cuts.fourth × HoldsAt c.sure info q
