use Rattle.std.proofs.Common.{◌≡◌, ◌∙◌, ℕ, List, Bor, ap, length, subst, rules}
use Rattle.std.specs.Prelude.{string_bytes}
use Rattle.std.specs.List.{flat_map}
use Rattle.gl_model.specs.Entries.{Entry, seen}
use Rattle.gl_model.specs.declared.record.Entry.{Entry as StoredEntry}
use Rattle.gl_model.specs.Report.{all_entries, event_count, out_line, printed_below}
use Rattle.gl_report.specs.Firsts.{AreFirsts}
use Rattle.gl_report.specs.Lines.{out_lines_at}
use Rattle.gl_report.proofs.Firsts.{prints_are}
use Rattle.gl_report.proofs.Reporting.{all_are, events_are, report_is}
use Rattle.gl_report.proofs.page.report_of_entries.Goals as goal

pub returns : goal.returns
returns c made are =
    let entries : List (ℕ × Bor StoredEntry) = c.args.entries.now in
    let entry : Bor StoredEntry → Entry = λ e. seen e.now in
    let view : ℕ × Bor StoredEntry → ℕ × Entry = λ p. (p.0, entry p.1) in
    let firsts = c.in_ok-firsts.firsts in
    let P : List Entry → Type 0 = λ es. AreFirsts entry es firsts.items in
    let first : AreFirsts entry (all_entries made) firsts.items = subst P (all_are view entries made are) c.in_ok-firsts.ensures.firsts in
    let many : length firsts.items ≡ event_count made = c.in_ok-firsts.ensures.length ∙ events_are view entries made are in
    let prints : flat_map (out_lines_at entry) c.deref.result.now
    ≡ flat_map out_line (printed_below (all_entries made) (length firsts.items)) =
    ap (flat_map (out_lines_at entry)) c.deref.ensures.value ∙ prints_are entry (all_entries made) firsts.items first in
    report_is view entries made are (string_bytes c.new-out.result) (string_bytes c.put_outs.new.out) (string_bytes c.put_races.new.out)
    (string_bytes c.put_ends.new.out)
    (string_bytes c.writeln.new.self) (flat_map (out_lines_at entry) c.deref.result.now) (length firsts.items) c.races-races.result
    c.new-out.ensures.bytes
    c.in_ok-put_outs.ensures prints many c.in_ok-put_races.ensures c.in_ok-put_ends.ensures c.races-races.ensures (search rules)
