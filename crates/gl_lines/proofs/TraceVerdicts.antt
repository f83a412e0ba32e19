-- Where a line is judged rightly, what is said of its draws holds, and so does what was said of those before.
use Rattle.std.proofs.Common.{◌≡◌, ℕ, ◌<◌, ◌≤◌, List, [], ◌∷◌, length, refl, subst, sym, ◌∙◌, inl, inr, arith, Some, None, true, false, Bool}
use Rattle.std.specs.Prelude.{◌↔◌, pos, if◌then◌else◌}
use Rattle.std.proofs.lemmas.Option.{slice_get_within}
use Rattle.gl_model.specs.declared.event.Act.{Act}
use Rattle.gl_model.specs.declared.event.Act.TheVariants.{Begin, End, Acq, Rel, VRead, VWrite, Fork, Join, Alloc, Print, Input, Fail}
use Rattle.gl_model.specs.declared.event.Event.TheVariants.{Act as Does, Commit as Commits}
use Rattle.gl_model.specs.declared.event.Stamp.{Stamp}
use Rattle.gl_model.specs.declared.row.Item.{Item}
use Rattle.gl_model.specs.declared.row.Item.TheVariants.{Act as Acts, Access, Commit as CommitsOn}
use Rattle.gl_model.specs.declared.row.Judged.{Judged}
use Rattle.gl_model.specs.declared.row.Judged.TheVariants.{NoAccess, Performed, Raised}
use Rattle.gl_model.specs.declared.tx.Why.TheVariants.{Raised as WasRaised}
use Rattle.gl_model.specs.Edges.{EventAt, commits}
use Rattle.gl_model.specs.Entries.{Entry, Plain, Commit, Abort}
use Rattle.gl_model.specs.HappensBefore.{IsRacy}
use Rattle.gl_model.specs.Locksets.{Access as Accesses}
use Rattle.gl_model.specs.Machine.{State, Running}
use Rattle.gl_model.specs.Next.{commit_edge, edge_on, HappensBeforeNext}
use Rattle.gl_model.specs.Records.{Place}
use Rattle.gl_model.specs.Rising.{with_all}
use Rattle.gl_model.specs.Trace.{with_entry, last_place, line_tx, is_in, IsJudgedRightly}
use Rattle.gl_draws.specs.Draws.{Entered, Looked, Draw, draw, access_of, Among, word_of}
use Rattle.gl_draws.specs.NextRaces.{IsRacyNext}
use Rattle.gl_lines.specs.Traced.{Traced, block_of, with_look, touches, after_plain, after_commit, after_refused, with_event, with_last, with_stamp, after_act, after_item}
use Rattle.gl_draws.specs.Verdicts.{Precedes, IsRacyAmong, IsRightEntry, LooksHave, DrawHolds, DrawsHold}
use Rattle.gl_draws.proofs.Words.{is_word}
use Rattle.gl_draws.proofs.EventTies.{new_event}
use Rattle.gl_lines.proofs.LineSets.{look_is}
use Rattle.gl_draws.proofs.Reaching.{event_kept, reaches_grows}
use Rattle.gl_lines.proofs.TraceAttempts.{each_attempt, among_cases, look_fits, refused_fits, commit_fits, look_placed, look_grown}
use Rattle.gl_lines.proofs.TraceEvents.{DrawFits, fits_holds, IsRecorded}
use Rattle.gl_lines.proofs.TraceNext.{end_place, last_is, racy_plain, racy_plain_on, racy_commit}
use Rattle.gl_lines.proofs.TracePlain.{block_here, each_variable, plain_fits}
use Rattle.gl_draws.proofs.VerdictGrowth.{draws_grow}

-- an access is racy among these draws, as its entry will stand, exactly where it is so as the next one
pub among_next : (h : List Stamp) (x : ℕ) (ds : List Draw) (t q : ℕ) (f : Entry) → IsRacyAmong h x ds t q f
    → ((p : ℕ) (s : Stamp) → EventAt h p s → s.thread ≡ t → p ≤ q) → IsRacyNext h x ds t None f
among_next h x ds t q f r upto = record {
  earlier = r.earlier;
  entry = r.entry;
  among = r.among;
  made = r.made;
  performed = r.performed;
  apart = r.apart;
  conflict = r.conflict;
  unordered = before;
}
  where
    before : HappensBeforeNext h (access_of r.earlier) t None → ⊥
    before (inl same) = r.apart same
    before (inr k) = r.unordered (record {
      position = k.0;
      event = k.1.0;
      here = k.1.1;
      own = k.1.2;
      within = upto k.0 k.1.0 k.1.1 k.1.2;
      reached = k.1.3;
    })

-- a next plain access that is racy is racy among the draws, in any block
pub next_among : (h : List Stamp) (x : ℕ) (ds : List Draw) (t q : ℕ) (f : Entry) → IsRacyNext h x ds t None f → IsRacyAmong h x ds t q f
next_among h x ds t q f r = record {
  earlier = r.earlier;
  entry = r.entry;
  among = r.among;
  made = r.made;
  performed = r.performed;
  apart = r.apart;
  conflict = r.conflict;
  unordered = λ p. r.unordered (inr (p.position, (p.event, p.here, p.own, p.reached)));
}

-- what happens before the next commit precedes the commit once it is there
commit_precedes : (h : List Stamp) (a : Accesses) (t : ℕ) (xs : List ℕ) → a.block < length h → (a.thread ≡ t → ⊥)
    → HappensBeforeNext h a t (Some xs) → Precedes (with_stamp h t (Commits xs)) a t (length h)
commit_precedes h a t xs near apart (inl same) = absurd (apart same)
commit_precedes h a t xs near apart (inr (inl k)) =
    record {
      position = k.0;
      event = k.1.0;
      here = event_kept h (record { thread = t; event = Commits xs } ∷ []) k.0 k.1.0 k.1.1;
      own = k.1.2;
      within = (let l = slice_get_within h k.0 k.1.0 k.1.1 in omega arith);
      reached = reaches_grows h (record { thread = t; event = Commits xs } ∷ []) k.1.3;
    }
commit_precedes h a t xs near apart (inr (inr (inl on))) =
    let x : Stamp = record { thread = t; event = Commits xs } in
    record {
      position = length h;
      event = x;
      here = new_event h x;
      own = refl;
      within = omega arith;
      reached = commit_edge x xs (new_event h x) near refl on;
    }
commit_precedes h a t xs near apart (inr (inr (inr z))) =
    let x : Stamp = record { thread = t; event = Commits xs } in
    let k = z.1.1.1 in
    let here = event_kept h (x ∷ []) z.0 z.1.0 k.1 in
    record {
      position = length h;
      event = x;
      here = new_event h x;
      own = refl;
      within = omega arith;
      reached =
          edge_on z.1.0 x (reaches_grows h (x ∷ []) k.5) here (new_event h x) (slice_get_within h z.0 z.1.0 k.1)
          (commits k.0 z.1.1.0 xs k.2 refl k.3 k.4);
    }

module _ (s : Traced) (now : State) (r : IsRecorded s now) (t : ℕ) (running : now.threads t ≡ Running) (all : (y : ℕ)
    → DrawsHold s.history y (s.draws y)) where
  -- the events of a line that is no access
  act_holds : (act : Act) (y : ℕ) → DrawsHold (after_act t act s).history y ((after_act t act s).draws y)
  act_holds (Begin f) y = draws_grow s.history (record { thread = t; event = Does (Begin f) } ∷ []) y (s.draws y) (all y)
  act_holds End y = draws_grow s.history (record { thread = t; event = Does End } ∷ []) y (s.draws y) (all y)
  act_holds (Acq o) y = draws_grow s.history (record { thread = t; event = Does (Acq o) } ∷ []) y (s.draws y) (all y)
  act_holds (Rel o) y = draws_grow s.history (record { thread = t; event = Does (Rel o) } ∷ []) y (s.draws y) (all y)
  act_holds (VRead v) y = draws_grow s.history (record { thread = t; event = Does (VRead v) } ∷ []) y (s.draws y) (all y)
  act_holds (VWrite v) y = draws_grow s.history (record { thread = t; event = Does (VWrite v) } ∷ []) y (s.draws y) (all y)
  act_holds (Fork u f) y =
      draws_grow (with_stamp s.history t (Does (Fork u f))) (record { thread = u; event = Does (Begin f) } ∷ []) y (s.draws y)
      (draws_grow s.history (record { thread = t; event = Does (Fork u f) } ∷ []) y (s.draws y) (all y))
  act_holds (Join u) y = here (s.tracing.ended u)
    where
      here : (b : Bool) → DrawsHold (if b then with_event t (Join u) s else with_event t (Join u) (with_last u s)).history y
          ((if b then with_event t (Join u) s else with_event t (Join u) (with_last u s)).draws y)
      here true = draws_grow s.history (record { thread = t; event = Does (Join u) } ∷ []) y (s.draws y) (all y)
      here false = draws_grow (with_stamp s.history u (Does End)) (record { thread = t; event = Does (Join u) } ∷ []) y (s.draws y)
          (draws_grow s.history (record { thread = u; event = Does End } ∷ []) y (s.draws y) (all y))
  act_holds (Alloc c) y = draws_grow s.history (record { thread = t; event = Does (Alloc c) } ∷ []) y (s.draws y) (all y)
  act_holds Print y = draws_grow s.history (record { thread = t; event = Does Print } ∷ []) y (s.draws y) (all y)
  act_holds Input y = draws_grow s.history (record { thread = t; event = Does Input } ∷ []) y (s.draws y) (all y)
  act_holds (Fail c) y = draws_grow s.history (record { thread = t; event = Does (Fail c) } ∷ []) y (s.draws y) (all y)

  -- a plain access
  module _ (x : ℕ) (write : Bool) where
    abbrev plain : Bool → Entry
    plain raised = Plain x (s.tracing.numbers x) false write (pos 0) raised

    -- a plain entry of the value 0 that is raised exactly where it is racy among the draws is right
    right : (w raised : Bool) → (raised ≡ true) ↔ IsRacyAmong s.history x (s.draws x) t (block_of t s)
        (Plain x (s.tracing.numbers x) false w (pos 0) raised)
        → IsRightEntry s.history x (s.draws x) t (block_of t s) (Plain x (s.tracing.numbers x) false w (pos 0) raised)
    right true raised i = i
    right false raised i = (i, λ e. sym (r.words x))

    -- no event of thread t is behind its block
    upto : (p : ℕ) (e : Stamp) → EventAt s.history p e → e.thread ≡ t → p ≤ block_of t s
    upto = (block_here s now r t running).upto

    -- where a plain access is raised exactly where it is racy among the draws of x, what is said of each draw holds behind it
    holds : (raised : Bool) → (raised ≡ true) ↔ IsRacyAmong s.history x (s.draws x) t (block_of t s)
        (Plain x (s.tracing.numbers x) false write (pos 0) raised) → (y : ℕ)
        → DrawsHold s.history y ((after_plain t x write raised s).draws y)
    holds raised i = each_variable s now r t running x write raised (λ y ds. DrawsHold s.history y ds) (
      fits_holds s.history x (draw t (block_of t s) (Entered (plain raised))) (s.draws x) (plain_fits s now r t running x write raised)
          (right write raised i),
      all x,
    ) (λ y other. all y)

    -- so it does behind a raised access whose entry is racy in the record with it
    raised_holds : (var : ℕ) → IsRacy (with_entry s.tracing.lists t (plain true)) (end_place s.tracing.lists t) var → (y : ℕ)
        → DrawsHold s.history y ((after_plain t x write true s).draws y)
    raised_holds var racy =
        let same = racy_plain_on s now r t running x write true var racy in
        let racy' : IsRacy (with_entry s.tracing.lists t (plain true)) (end_place s.tracing.lists t) x =
        subst (IsRacy (with_entry s.tracing.lists t (plain true)) (end_place s.tracing.lists t)) (sym same) racy in
        holds true (
          λ e. next_among s.history x (s.draws x) t (block_of t s) (plain true)
              ((racy_plain s now r t running x write true).0 racy'),
          λ i. refl,
        )

    -- and behind a performed access whose entry is not racy on x in the record with it
    performed_holds : (IsRacy (with_entry s.tracing.lists t (plain false)) (end_place s.tracing.lists t) x → ⊥) → (y : ℕ)
        → DrawsHold s.history y ((after_plain t x write false s).draws y)
    performed_holds none =
        holds false (
          λ e. absurd (cc),
          λ i. absurd
              (none ((racy_plain s now r t running x write false).1
              (among_next s.history x (s.draws x) t (block_of t s) (plain false) i upto))),
        )

  -- a commit
  module _ (reads writes : List ℕ) where
    -- behind a refused commit what is said of each draw holds, whichever variable it names
    refused_holds : (var y : ℕ) → DrawsHold s.history y ((after_refused t reads writes var s).draws y)
    refused_holds var y = each_attempt (DrawHolds s.history y) t (block_of t s) (block_of t s)
        (Abort (line_tx reads writes s.tracing.numbers) (WasRaised var)) (touches reads writes y) (is_in y reads) (s.draws y)
        (λ i. fits_holds s.history y (draw t (block_of t s) (Looked (pos 0))) (s.draws y)
        (look_fits s now r t running reads writes s.history y (look_placed s now r t running reads writes))
        (is_word y (s.draws y) (pos 0) (r.words y)))
        (λ i. fits_holds s.history y (draw t (block_of t s) (Entered (Abort (line_tx reads writes s.tracing.numbers) (WasRaised var))))
        (with_look (is_in y reads) t (block_of t s) (s.draws y)) (refused_fits s now r t running reads writes var y i) tt)
        (all y)

    abbrev e : Entry
    e = Commit s.tracing.next (line_tx reads writes s.tracing.numbers)

    abbrev log : List Stamp
    log = with_stamp s.history t (Commits (with_all writes reads))

    module _ (none : (y : ℕ) → IsRacy (with_entry s.tracing.lists t (Commit s.tracing.next (line_tx reads writes s.tracing.numbers)))
        (end_place s.tracing.lists t) y → ⊥) (y : ℕ) where
      not_racy : touches reads writes y ≡ true → IsRacyAmong log y (with_look (is_in y reads) t (block_of t s) (s.draws y)) t
          s.tracing.next e → ⊥
      not_racy i racy = none y ((racy_commit s now r t running reads writes y i).1
          (record {
            earlier = racy.earlier;
            entry = racy.entry;
            among = among;
            made = racy.made;
            performed = racy.performed;
            apart = racy.apart;
            conflict = racy.conflict;
            unordered = before;
          }))
        where
          among : Among (s.draws y) racy.earlier
          among = among_cases (λ a. (g : Entry) → a.what ≡ Entered g → Among (s.draws y) a) t (block_of t s) (is_in y reads) (s.draws y)
              (λ g is. absurd (cc)) (λ a m g is. m) racy.earlier racy.among racy.entry racy.made

          near : racy.earlier.block < length s.history
          near =
              let f = Rattle.gl_draws.proofs.LastOnes.each_at (DrawFits s.history y) (s.draws y) racy.earlier (r.fit y) among in
              slice_get_within s.history racy.earlier.block f.1.placed.event f.1.placed.here

          before : HappensBeforeNext s.history (access_of racy.earlier) t (Some (with_all writes reads)) → ⊥
          before hb = racy.unordered (subst (Precedes log (access_of racy.earlier) t) (sym r.next)
              (commit_precedes s.history (access_of racy.earlier) t (with_all writes reads) near racy.apart hb))

      word_kept : (c : Bool) → word_of y (with_look c t (block_of t s) (s.draws y)) ≡ pos 0
      word_kept true = r.words y
      word_kept false = r.words y

      looks : LooksHave (line_tx reads writes s.tracing.numbers) y (word_of y (with_look (is_in y reads) t (block_of t s) (s.draws y)))
      looks value nth c = (look_is reads writes s.tracing.numbers y nth value c).2 ∙ sym (word_kept (is_in y reads))

      commit_holds : DrawsHold log y ((after_commit t reads writes s).draws y)
      commit_holds = each_attempt (DrawHolds log y) t (block_of t s) s.tracing.next e (touches reads writes y) (is_in y reads) (s.draws y)
          (λ i. fits_holds log y (draw t (block_of t s) (Looked (pos 0))) (s.draws y)
          (look_fits s now r t running reads writes log y (look_grown s now r t running reads writes))
          (is_word y (s.draws y) (pos 0) (r.words y)))
          (λ i. fits_holds log y (draw t s.tracing.next (Entered e)) (with_look (is_in y reads) t (block_of t s) (s.draws y))
          (commit_fits s now r t running reads writes y i) (not_racy i, looks))
          (draws_grow s.history (record { thread = t; event = Commits (with_all writes reads) } ∷ []) y (s.draws y) (all y))

  abbrev at_end : Entry → Place
  at_end e = last_place (with_entry s.tracing.lists t e) t

  -- what holds of the last place of the list with one more entry holds of the place where the list before ended
  there : (P : Place → Type 0) (e : Entry) → P (last_place (with_entry s.tracing.lists t e) t) → P (end_place s.tracing.lists t)
  there P e p = subst P (last_is s.tracing.lists t e) p

  -- where a line is judged rightly in the record behind it, what is said of draws holds of those behind it
  pub item_holds : (item : Item) (judged : Judged)
      → IsJudgedRightly (after_item t item judged s).tracing.lists (last_place (after_item t item judged s).tracing.lists t) item judged
      → (y : ℕ) → DrawsHold (after_item t item judged s).history y ((after_item t item judged s).draws y)
  item_holds (Acts act) judged j y = act_holds act y
  item_holds (Access x write) NoAccess j y = absurd j
  item_holds (Access x write) Performed j y =
      performed_holds x write (λ racy. there (λ c. (z : ℕ) → IsRacy (with_entry s.tracing.lists t (plain x write false)) c z → ⊥)
      (plain x write false) j x racy) y
  item_holds (Access x write) (Raised var) j y =
      raised_holds x write var (there (λ c. IsRacy (with_entry s.tracing.lists t (plain x write true)) c var) (plain x write true) j.0) y
  item_holds (CommitsOn reads writes) NoAccess j y = absurd j
  item_holds (CommitsOn reads writes) Performed j y =
      commit_holds reads writes (there (λ c. (z : ℕ) → IsRacy (with_entry s.tracing.lists t (e reads writes)) c z → ⊥) (e reads writes) j) y
  item_holds (CommitsOn reads writes) (Raised var) j y = refused_holds reads writes var y
