use Rattle.std.specs.Prelude.{ℕ, List}
use Rattle.gl_trace.specs.Trace.{IsFirstFault}
use Rattle.gl_text.specs.declared.fault.TextError.{TextError}
use Rattle.gl_text.specs.declared.fault.TextError.TheVariants.{Fault, Memory}

-- an error that is not want of memory is the first fault
abbrev pub FaultsFirst : List ℕ → TextError → Type 0
FaultsFirst text (Fault f) = IsFirstFault text f.line f.kind
FaultsFirst text (Memory e) = Unit {0}
