use Rattle.std.proofs.Common.{arith, length-append, ◌*◌, ◌≡◌, ◌+◌, ◌∙◌, ◌++◌, ◌∷◌, [], ap, sym, subst, map}
use Rattle.std.specs.List.{count_by}
use Rattle.std.proofs.lemmas.List.{map-append}
use Rattle.gl_trace.specs.Judging.{line_of}
use Rattle.gl_trace.specs.TraceLine.{TraceLine}
use Rattle.gl_trace.specs.Verdicts.{is_race, verdict_line}
use Rattle.gl_trace.specs.declared.limits.TheConstants.{TRACE_LINES}
use Rattle.gl_run.specs.Recording.{IsRecorded}
use Rattle.gl_run.specs.Check.{Said, lines_said}
use Rattle.gl_run.proofs.SaidLines.{said_on, said_next, races_push, text_push, more_on_ok, few_races, recorded_room, lines_length}
use Rattle.gl_run.proofs.verdicts.Verdicts.take.Goals as goal

pub record_line-requires-clause-few : goal.record_line-requires-clause-few
record_line-requires-clause-few g c =
    let a = c.requires.awaits in
    let line : TraceLine = (c.args.line, c.args.thread, c.args.item.now) in
    let judged = c.in_ok-judged.judged in
    let on = said_on a.done line judged c.args.self.now.detector c.step.new.self c.in_ok-judged.ensures.right a.said.right a.said.follows
    a.lines in
    (said_next a.done line judged a.lines on.0).few

pub record_line-requires-clause-suits : goal.record_line-requires-clause-suits
record_line-requires-clause-suits g c =
    let a = c.requires.awaits in
    let line : TraceLine = (c.args.line, c.args.thread, c.args.item.now) in
    let judged = c.in_ok-judged.judged in
    let on = said_on a.done line judged c.args.self.now.detector c.step.new.self c.in_ok-judged.ensures.right a.said.right a.said.follows
    a.lines in
    (said_next a.done line judged a.lines on.0).suits

pub with_one-self-requires : goal.with_one-self-requires
with_one-self-requires g c =
    let a = c.requires.awaits in
    omega (
      arith,
      a.said.races,
      few_races a.done,
      a.lines.few,
      length-append (lines_said a.done)
          ((c.args.line, c.args.thread, c.args.item.now) ∷ []),
    )

pub record_line-requires-clause-room : goal.record_line-requires-clause-room
record_line-requires-clause-room g c =
    let a = c.requires.awaits in
    recorded_room (map line_of a.done) (2 * TRACE_LINES) c.args.self.now.tracer
    (omega (
      arith,
      lines_length a.done,
      a.lines.few,
      length-append (lines_said a.done) ((c.args.line, c.args.thread, c.args.item.now)
          ∷ []),
    )) a.said.recorded

pub returns-clause-said : goal.returns-clause-said
returns-clause-said g c = λ done said lines.
    let line : TraceLine = (c.args.line, c.args.thread, c.args.item.now) in
    let judged = c.in_ok-judged.judged in
    let p : Said = (line, judged) in
    let on = said_on done line judged c.args.self.now.detector c.step.new.self c.in_ok-judged.ensures.right said.right said.follows lines in
    let more : map line_of (done ++ p ∷ []) ≡ map line_of done ++ line_of p ∷ [] = map-append line_of done (p ∷ []) in
    more_on_ok _ _ c.record_line.result
    (λ (recorded : IsRecorded (map line_of done ++ line_of p ∷ []) c.record_line.new.tracer). (
      judged,
      record {
        right = on.0;
        ready = c.in_ok-judged.ensures.ready;
        follows = on.1;
        text = c.in_ok-push_verdict.ensures.added ∙ ap (λ x. x ++ verdict_line c.args.line judged) said.text ∙ text_push done line judged;
        races = c.with_one-self.ensures ∙ ap (λ n. n + count_by is_race (judged ∷ [])) said.races ∙ sym (races_push done line judged);
        recorded = subst (λ x. IsRecorded x c.record_line.new.tracer) (sym more) recorded;
      },
    ))
    (c.record_line.ensures.recorded (map line_of done) said.recorded)
