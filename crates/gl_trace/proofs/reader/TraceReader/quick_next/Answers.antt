use Rattle.std.proofs.Common.{rules, arith, ◌≡◌, ◌≤◌, ◌+◌, ◌∷◌, None, sym, ◌∙◌, ap, subst}
use Rattle.gl_model.specs.TraceSteps.{Step, step_fault}
use Rattle.gl_trace.specs.Reads.{Reads}
use Rattle.gl_trace.specs.TraceLine.{steps_of}
use Rattle.gl_trace.specs.Tracks.{IsWithin}
use Rattle.gl_trace.specs.declared.limits.TheConstants.{TRACE_LINES}
use Rattle.gl_trace.proofs.TraceLemmas.{numbered_step}
use Rattle.gl_trace.proofs.QuickLemmas.{quick_clean}
use Rattle.gl_trace.proofs.reader.TraceReader.quick_next.Goals as goal

pub returns-clause-line : goal.returns-clause-line
returns-clause-line c = λ text made is.
    let old = c.args.self.now in
    let said' = c.in_ok-thread.ensures.said in
    let step : Step = (c.in_ok-thread.thread, c.quick_line.new.item) in
    let left : old.lines.left ≡ said'.0 ∷ c.skip_to.new.self.left = sym c.rest.ensures.lines ∙ said'.1.here
    ∙ ap (λ l. said'.0 ∷ l) (sym c.skip_to.ensures.left) in
    let reads : Reads text old.lines.given (said'.0 ∷ c.skip_to.new.self.left) made old.standing =
    subst (λ l. Reads text old.lines.given l made old.standing) left is.reads in
    let next : c.given-number.result + 1 ≡ old.lines.given + 1 = ap (λ n. n + 1) c.given-number.ensures.value in
    let few : c.given-number.result + 1 ≤ TRACE_LINES = omega arith in
    let none : c.fault.result ≡ None = search rules in
    let clean : step_fault (steps_of made) step.0 step.1 ≡ None = sym (c.fault.ensures (steps_of made) is.reads.tracks) ∙ none in
    record {
      short = is.short;
      reads = numbered_step text said'.0 old.lines.given (c.given-number.result + 1) c.skip_to.new.self.given c.skip_to.new.self.left made
          old.standing c.take.new.self step next
          (c.skip_to.ensures.given ∙ sym next) reads few said'.2
          (quick_clean (steps_of made) (c.given-number.result + 1) said'.0 step said'.1.good few said'.2 clean)
          (c.take.ensures.tracks (steps_of made) is.reads.tracks)
          (subst (λ n. IsWithin n c.take.new.self) (sym next) (c.take.ensures.within old.lines.given is.reads.within))
          c.in_ok-thread.ensures.range c.in_ok-thread.ensures.set;
    }
