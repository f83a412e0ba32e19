-- A closed table's record is lawful.
use Rattle.std.proofs.Common.{◌≢◌, ℕ, []}
use Rattle.gl_model.specs.Entries.{Entry}
use Rattle.gl_model.specs.Form.{At, IsOver}
use Rattle.gl_model.specs.Lawful.{IsLawful}
use Rattle.gl_model.specs.Machine.{Setting}
use Rattle.gl_model.specs.Records.{Lists, Place, EntryAt}
use Rattle.gl_draws.specs.Cached.{IsEntryRising, AreAllRight}
use Rattle.gl_draws.proofs.Lawfulness.{lawful}
use Rattle.gl_rule.specs.Closed.{IsClosed}
use Rattle.gl_draws.proofs.RefusedRaces.{refused_rightly}

module _ (setting : Setting) (low : ℕ) (R : Lists) (c : IsClosed setting low R) (rising : (d : Place) (e : Entry) → EntryAt R d e
    → IsEntryRising e) where
  -- the draws of a closed table are those of a record with right draws
  pub all_right : AreAllRight R c.log c.draws
  all_right = record {
    events = c.events;
    tied = c.tied;
    hold = c.hold;
    formed = c.formed;
    rising = rising;
    repeats = c.repeats;
    written_back = c.written_back;
  }

  -- so the record is lawful
  pub closed_lawful : R 0 ≢ [] → ((t : ℕ) → R t ≢ [] → (i : ℕ) × ((e : Entry) × At (R t) i e × IsOver e)) → IsLawful setting R
  closed_lawful main ends = lawful setting R c.log c.draws all_right c.machine c.beyond
      (λ d tx var here. refused_rightly R c.log c.draws all_right c.until c.refused c.refusals d tx var here) main ends
