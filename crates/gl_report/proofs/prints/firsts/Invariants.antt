use Rattle.std.proofs.Common.{◌≡◌, length, map, take}
use Rattle.std.specs.Prelude.{count_by}
use Rattle.gl_model.specs.Entries.{seen}
use Rattle.gl_model.specs.Report.{is_event}
use Rattle.gl_report.specs.Firsts.{AreFirsts}
use Rattle.gl_report.proofs.prints.firsts.Given as goal

abbrev pub invariant-loop-entry : goal.invariant-loop-entry
invariant-loop-entry l = record {
  length : length l.firsts.items ≡ count_by (λ p. is_event (seen p.1.now)) l.entries;
  firsts : AreFirsts (λ e. seen e.now) (map (λ p. seen p.1.now) (take l.entry-index l.entries)) l.firsts.items;
}
