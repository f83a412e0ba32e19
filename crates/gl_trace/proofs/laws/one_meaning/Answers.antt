use Rattle.std.proofs.Common.{◌≡◌, ◌∙◌, Some, None, arith, sym, inl, inr}
use Rattle.std.specs.Str.Lines.{lines}
use Rattle.gl_trace.specs.Trace.{fault_at}
use Rattle.gl_trace.proofs.laws.one_meaning.Goals as goal

pub returns-clause-apart : goal.returns-clause-apart
returns-clause-apart c = λ text trace line kind means fault.
    elim fault [
      | inl long ↦ let over = long.0 in let short = means.short in omega arith
      | inr first ↦
          let place = first.1 in
          let none : fault_at (lines text) place.0 ≡ None = means.clean place.0 place.2.there in
          let some : fault_at (lines text) place.0 ≡ Some kind = place.2.fault in
          cc
    ]

pub returns-clause-traces : goal.returns-clause-traces
returns-clause-traces c = λ text a b one two. one.all ∙ sym two.all
