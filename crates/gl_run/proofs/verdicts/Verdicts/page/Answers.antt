use Rattle.std.proofs.Common.{rules, arith, ◌≡◌, ◌+◌, ◌*◌, ◌++◌, refl, map, if◌then◌else◌, ◌==◌}
use Rattle.std.specs.Prelude.{string_bytes}
use Rattle.gl_trace.specs.Judging.{line_of}
use Rattle.gl_trace.specs.Verdicts.{races_line}
use Rattle.gl_trace.specs.declared.limits.TheConstants.{TRACE_LINES}
use Rattle.gl_run.proofs.SaidLines.{status_end, text_end, recorded_room, lines_length}
use Rattle.gl_run.proofs.verdicts.Verdicts.page.Goals as goal

pub kept_of-requires : goal.kept_of-requires
kept_of-requires c =
    let e = c.requires in
    record {
      room = recorded_room (map line_of e.done) (2 * TRACE_LINES + 1) c.args.self.tracer
          (omega (arith, lines_length e.done, e.lines.few)) e.said.recorded;
    }

pub returns : goal.returns
returns c = λ done said lines.
    let races = c.args.self.races in
    let status : c.if-self-eq0.result ≡ (if races == 0 then 0 else 6) = search rules in
    let text : c.into_bytes.result.items ≡ string_bytes c.args.self.text ++ races_line races = search rules in
    record {
      said = done;
      all = refl;
      right = said.right;
      status_is = status_end done c.if-self-eq0.result races status said.races;
      bytes_are = text_end done c.into_bytes.result.items (string_bytes c.args.self.text) races text said.text said.races;
      kept_is = c.in_ok-kept_of.ensures (map line_of done) said.recorded;
    }
