-- What is true of a closed table.
use Rattle.gl_model.specs.Lawful.{IsLawful}
use Rattle.gl_model.specs.Lists.{lists_of}
use Rattle.gl_table.specs.declared.sealed.Sealed.TheInside.{Inside}
use Rattle.gl_rule.specs.Bounded.{IsBounded}
use Rattle.gl_table.specs.Ending.{IsTrimmed}
use Rattle.gl_table.specs.KeyOf.{key_of}
use Rattle.gl_table.specs.SealedView.{SealedView}

abbrev pub sealed_view : Inside → SealedView
sealed_view s = record { entries = s.record; key = key_of s.layout }

pub record IsSealed (s : Inside) : Type 0 where
  pub lawful : IsLawful (key_of s.layout).setting (lists_of s.record)
  pub trims : IsTrimmed (key_of s.layout) (lists_of s.record)
  pub bounded : IsBounded (lists_of s.record)
