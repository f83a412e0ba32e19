-- The entry of a trace's last line is racy in the record behind it exactly where it is so as the next access behind the lines before.
use Rattle.std.proofs.Common.{◌≡◌, ◌≢◌, ℕ, ◌<◌, List}
use Rattle.std.specs.Prelude.{◌↔◌, Option}
use Rattle.gl_model.specs.Entries.{Entry}
use Rattle.gl_model.specs.HappensBefore.{HappensBefore, IsRacy}
use Rattle.gl_model.specs.Machine.{State}
use Rattle.gl_model.specs.Next.{HappensBeforeNext}
use Rattle.gl_model.specs.Records.{Place, EntryAt, NumberOn}
use Rattle.gl_laws.specs.Closure.{StandsFor}
use Rattle.gl_draws.specs.Added.{IsAdded}
use Rattle.gl_draws.proofs.Added.{racy_alike as racy_added}
use Rattle.gl_draws.specs.Draws.{Entered, Draw, access_of, Among, DrawAt}
use Rattle.gl_draws.specs.NextRaces.{IsRacyNext}
use Rattle.gl_draws.specs.Ties.{AreTied}
use Rattle.gl_lines.specs.Traced.{Traced}
use Rattle.gl_draws.specs.Verdicts.{IsPlaced}
use Rattle.gl_draws.proofs.Closing.{is_list, positions_rise}
use Rattle.gl_draws.proofs.LastOnes.{each_at}
use Rattle.gl_lines.proofs.TraceEvents.{DrawFits, IsRecorded}

-- the record and the draws of what was traced are tied
pub tied_of : (s : Traced) (now : State) → IsRecorded s now → AreTied s.tracing.lists s.draws
tied_of s now r = record { at = r.drawn }

-- s is followed by the entry e of thread t, at the place d; on y it has the number m, and all other entries of y are in s's draws
module _ (s s' : Traced) (now now' : State) (r : IsRecorded s now) (r' : IsRecorded s' now') (e : Entry) (v : Option (List ℕ)) (d : Place)
    (here : EntryAt s'.tracing.lists d e) (y m : ℕ) (number : NumberOn e y m) (one : (k : ℕ) → NumberOn e y k → k ≡ m)
    (old : (k : ℕ) (o : Draw) (g : Entry) → DrawAt (s'.draws y) k o → o.what ≡ Entered g → k < m → Among (s.draws y) o)
    (fresh : (o : Draw) → Among (s.draws y) o → (k : ℕ) × (k < m) × DrawAt (s'.draws y) k o)
    (alike : (o : Draw) (c : Place) → IsPlaced s.history o → StandsFor s'.tracing.lists c (access_of o) → c ≢ d
    → HappensBeforeNext s.history (access_of o) d.thread v ↔ HappensBefore s'.tracing.lists c d) where
  -- s' has the record and the draws of s with the entry e added, as far as they speak of y
  added : IsAdded s.history s'.history s'.tracing.lists s.draws s'.draws d e y m
  added = record {
    listed = is_list s'.tracing.lists s'.history r'.events;
    rise = positions_rise s'.tracing.lists s'.history r'.events;
    tied = tied_of s' now' r';
    alone = r'.alone;
    placed = λ o among. (each_at (DrawFits s'.history y) (s'.draws y) o (r'.fit y) among).1.placed;
    before = λ o among. (each_at (DrawFits s.history y) (s.draws y) o (r.fit y) among).1.placed;
    here = here;
    number = number;
    one = one;
    old = old;
    fresh = fresh;
  }

  -- so the entry is racy on y in the record behind it exactly where it is so as the next access behind s
  pub racy_alike : IsRacy s'.tracing.lists d y ↔ IsRacyNext s.history y (s.draws y) d.thread v e
  racy_alike = racy_added s.history s'.history s'.tracing.lists s.draws s'.draws d e v y m added alike
