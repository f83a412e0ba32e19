use Rattle.std.proofs.Common.{◌≡◌, sym, subst, rules, None}
use Rattle.gl_trace.specs.Reads.{IsReadTo}
use Rattle.gl_trace.specs.declared.reader.TraceReader.{TraceReader}
use Rattle.gl_trace.proofs.reader.TraceReader.next_line.Goals as goal

pub returns-in-None-clause-line : goal.returns-in-None-clause-line
returns-in-None-clause-line c = λ text made is.
    let none : c.quick_next.result ≡ None = search rules in
    c.full_next.ensures.line text made (subst (λ (r : TraceReader). IsReadTo text made r) (sym (c.quick_next.ensures.none none)) is)
