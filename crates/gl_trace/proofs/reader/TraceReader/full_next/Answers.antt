use Rattle.std.proofs.Common.{rules, arith, ◌≡◌, ◌≤◌, ◌∷◌, length, Some, None, Ok, subst, ap}
use Rattle.gl_model.specs.TraceSteps.{Step, IsStep}
use Rattle.gl_text.specs.Text.{words}
use Rattle.gl_trace.specs.Kept.{IsItemKept}
use Rattle.gl_trace.specs.Phrase.{said}
use Rattle.gl_trace.specs.Reads.{Reads}
use Rattle.gl_trace.specs.Trace.{line_fault}
use Rattle.gl_trace.specs.TraceLine.{steps_of}
use Rattle.gl_trace.specs.declared.limits.TheConstants.{TRACE_LINES}
use Rattle.gl_trace.proofs.TraceLemmas.{numbered_step, numbered_silent, numbered_fault}
use Rattle.gl_trace.proofs.reader.TraceReader.full_next.Goals as goal

pub returns-in-Err-clause-fault : goal.returns-in-Err-clause-fault
returns-in-Err-clause-fault c = λ text made is.
    let old = c.loop-line.self in
    let line = c.in-Some.line in
    let here = c.loop-line.invariant.0 text made is in
    let reads : Reads text old.lines.given (line.text ∷ c.next_line.new.self.left) made old.standing =
    subst (λ l. Reads text old.lines.given l made old.standing) c.in-Some.ensures.line here.reads in
    let fault : line_fault (steps_of made) line.number line.text
    ≡ Some c.in-Err.kind = c.in-Err.ensures.fault (steps_of made) here.reads.tracks in
    rw c.number-number.ensures
    (numbered_fault text line.text old.lines.given line.number c.in-Err.kind c.next_line.new.self.left made old.standing
    c.in-Some.ensures.number.0 here.short reads fault)

pub returns-in-Ok-Some-clause-line : goal.returns-in-Ok-Some-clause-line
returns-in-Ok-Some-clause-line c = λ text made is.
    let old = c.loop-line.self in
    let line = c.in-Some.line in
    let here = c.loop-line.invariant.0 text made is in
    let step : Step = (c.in-Ok-Some.thread, c.read_line.new.item) in
    let reads : Reads text old.lines.given (line.text ∷ c.next_line.new.self.left) made old.standing =
    subst (λ l. Reads text old.lines.given l made old.standing) c.in-Some.ensures.line here.reads in
    let says : said (words line.text) ≡ Ok (Some step) = search rules in
    let clean : line_fault (steps_of made) line.number line.text ≡ None = c.in-Ok-Some.ensures.clean (steps_of made) here.reads.tracks in
    let few : line.number ≤ TRACE_LINES = c.in-Ok-Some.ensures.few in
    let range : IsStep step = search rules in
    let kept : IsItemKept step.1 = search rules in
    let within = c.take.ensures.within old.lines.given here.reads.within in
    record {
      short = here.short;
      reads =
          rw c.number-number.ensures
          (numbered_step text line.text old.lines.given line.number c.next_line.new.self.given c.next_line.new.self.left made old.standing
          c.take.new.self step
          c.in-Some.ensures.number.0 c.in-Some.ensures.number.1 reads few says clean
          (c.take.ensures.tracks (steps_of made) here.reads.tracks)
          (rw c.in-Some.ensures.number.0 within) range kept);
    }

pub loop-line-preserved : goal.loop-line-preserved
loop-line-preserved c = (
  λ text made is.
      let old = c.loop-line.self in
      let line = c.in-Some.line in
      let here = c.loop-line.invariant.0 text made is in
      let reads : Reads text old.lines.given (line.text ∷ c.next_line.new.self.left) made old.standing =
      subst (λ l. Reads text old.lines.given l made old.standing) c.in-Some.ensures.line here.reads in
      let says : said (words line.text) ≡ Ok None = search rules in
      let clean : line_fault (steps_of made) line.number line.text ≡ None = c.in-Ok-None.ensures.clean (steps_of made) here.reads.tracks in
      record {
        short = here.short;
        reads =
            numbered_silent text line.text old.lines.given line.number c.next_line.new.self.given c.next_line.new.self.left made
            old.standing
            c.in-Some.ensures.number.0 c.in-Some.ensures.number.1 reads c.in-Ok-None.ensures.few says clean;
      },
  (let e = ap length c.in-Some.ensures.line in omega (arith, c.loop-line.invariant.1)),
)
