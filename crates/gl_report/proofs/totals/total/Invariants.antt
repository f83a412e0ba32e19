use Rattle.std.proofs.Common.{◌≡◌, take}
use Rattle.std.specs.List.{flat_map}
use Rattle.gl_model.specs.Entries.{seen}
use Rattle.gl_model.specs.Report.{last_or_zero}
use Rattle.gl_report.specs.Summary.{prints_at}
use Rattle.gl_report.proofs.totals.total.Given as goal

abbrev pub invariant-loop-first : goal.invariant-loop-first
invariant-loop-first l = l.total ≡ last_or_zero (flat_map (prints_at (λ e. seen e.now)) (take l.first-index l.firsts))
