use Rattle.std.proofs.Common.{◌≡◌, ◌∙◌, ℕ, List, Bor, ap, arith, length, rules, subst}
use Rattle.std.specs.Prelude.{count_by}
use Rattle.std.specs.List.{flat_map}
use Rattle.std.proofs.lemmas.Int.{ints}
use mir.Syntax.{w64}
use mir.Val.{SFits, of_z, to_z}
use Rattle.gl_model.specs.Entries.{Entry, seen}
use Rattle.gl_model.specs.declared.record.Entry.{Entry as StoredEntry}
use Rattle.gl_model.specs.Report.{all_entries, event_count, is_commit, last_or_zero, printed, printed_below, race_count}
use Rattle.gl_report.specs.Firsts.{AreFirsts}
use Rattle.gl_report.specs.Summary.{prints_at}
use Rattle.gl_report.proofs.Reporting.{all_are, events_are, many_races}
use Rattle.gl_report.proofs.Summing.{commits_are, values_are}
use Rattle.gl_report.proofs.totals.summary_of_entries.Goals as goal

pub returns : goal.returns
returns c made are =
    let entries : List (ℕ × Bor StoredEntry) = c.args.entries.now in
    let entry : Bor StoredEntry → Entry = λ e. seen e.now in
    let view : ℕ × Bor StoredEntry → ℕ × Entry = λ p. (p.0, entry p.1) in
    let firsts = c.in_ok-firsts.firsts in
    let P : List Entry → Type 0 = λ es. AreFirsts entry es firsts.items in
    let first : AreFirsts entry (all_entries made) firsts.items = subst P (all_are view entries made are) c.in_ok-firsts.ensures.firsts in
    let many : length firsts.items ≡ event_count made = c.in_ok-firsts.ensures.length ∙ events_are view entries made are in
    let prints : flat_map (prints_at entry) c.deref.result.now ≡ printed made =
    ap (flat_map (prints_at entry)) c.deref.ensures.value ∙ values_are entry (all_entries made) firsts.items first
    ∙ ap (printed_below (all_entries made)) many in
    let total : c.total-total.result ≡ last_or_zero (printed made) = c.total-total.ensures ∙ ap last_or_zero prints in
    let commits : c.commits-commits.result ≡ count_by is_commit (all_entries made) = c.commits-commits.ensures
    ∙ commits_are view entries made are in
    let races : c.races-races.result ≡ race_count made = c.races-races.ensures ∙ many_races view entries made are in
    let fits : SFits w64 c.total-total.result = search rules in
    let kept : to_z w64 (of_z w64 c.total-total.result) ≡ c.total-total.result = omega (arith, ints) in
    rw (kept, total, commits, races) at c.text_of.ensures
