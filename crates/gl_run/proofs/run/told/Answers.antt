use Rattle.std.proofs.Common.{◌≡◌, ℕ, List, subst}
use Rattle.gl_model.specs.Entries.{Entry}
use Rattle.gl_journal.specs.Written.{AllEntries, IsStamped, NamesFew}
use Rattle.gl_run.specs.Runs.{IsReadBack}
use Rattle.gl_run.proofs.Stamped.{is_stamped}
use Rattle.gl_run.proofs.run.told.Goals as goal

-- a line can say what a closed table counts, so its journal is read back where its transactions name few variables
pub returns-clause-read_back : goal.returns-clause-read_back
returns-clause-read_back c = λ is few.
    let same : c.record-2.result.now ≡ c.args.sealed.now.entries = c.record-2.ensures.is in
    let back : (made : List (ℕ × List Entry)) → Type 0 =
    λ made. IsStamped c.args.asked.threads.steps made → AllEntries NamesFew made → IsReadBack c.args.asked made in
    subst back same c.in_ok-add_journal.ensures.read_back
    (is_stamped c.args.asked.threads c.args.sealed.now.entries c.requires is c.record.ensures.bounded) few
