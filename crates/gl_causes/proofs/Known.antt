-- The last event that is known is the last that happens before a refused entry.
use Rattle.std.proofs.Common.{◌≡◌, ◌≢◌, ℕ, ◌+◌, ◌<◌, ◌≤◌, ◌==◌, List, take, Bool, true, false, refl, ap, sym, ◌∙◌, subst, inl, inr, arith, Some, None, eq-eqb}
use Rattle.std.specs.Prelude.{◌⊎◌, ◌↔◌, Option}
use Rattle.std.proofs.Math.Nat.{eq-or-lt_of_le}
use Rattle.std.proofs.lemmas.Bool.{eqb-true}
use Rattle.gl_clocks.proofs.Within.{precede_law}
use Rattle.gl_clocks.specs.Clocks.{clocks}
use Rattle.gl_core.specs.Cells.{at, cell}
use Rattle.gl_draws.proofs.DrawPlaces.{LastEvent, event_there, last_event}
use Rattle.gl_draws.specs.Verdicts.{Precedes}
use Rattle.gl_laws.proofs.Bridge.{plain_no_event, same_entry, same_place}
use Rattle.gl_laws.proofs.Closure.{reaches_later}
use Rattle.gl_laws.proofs.NextLaw.{refused_not_event}
use Rattle.gl_model.specs.declared.event.Act.TheVariants.{End}
use Rattle.gl_model.specs.declared.event.Element.TheVariants.{Thread}
use Rattle.gl_model.specs.declared.event.Event.TheVariants.{Act as Does}
use Rattle.gl_model.specs.declared.event.Stamp.{Stamp}
use Rattle.gl_model.specs.Edges.{EventAt, TransitiveClosure}
use Rattle.gl_model.specs.Entries.{Entry}
use Rattle.gl_model.specs.Form.{IsBegin}
use Rattle.gl_model.specs.HappensBefore.{HappensBefore, by_steps, from_commit, through_commit, IsCommit, IsRefusedCommit, OrdersDirectly, RefusedCommitEdge}
use Rattle.gl_model.specs.Locksets.{Access, IsAccessOf}
use Rattle.gl_model.specs.Machine.{Setting, State}
use Rattle.gl_model.specs.Next.{Reaches, own_later, thread_on}
use Rattle.gl_model.specs.Records.{Lists, Place, EntryAt, IsBlockOf, IsEventAt, IsPlain, PositionsRise, position_of}
use Rattle.gl_places.specs.declared.place.Place.{Place as StoredPlace}
use Rattle.gl_raised.specs.Accesses.{IsAccess}
use Rattle.gl_causes.specs.Leading.{IsLed, IsPassed, IsPlacePassed}
use Rattle.gl_causes.specs.Learning.{IsLearned, Knows, handed_on, refused_numbers}
use Rattle.gl_causes.specs.Stands.{IsStand, Stand}
use Rattle.gl_raised.proofs.Blocks.{goes_on}
use Rattle.gl_causes.proofs.EntryTests.{none_before}
use Rattle.gl_causes.proofs.Leaving.{ahead, no_end, prior}
use Rattle.gl_causes.proofs.Led.{event_before, event_reached, precede_steps, reached_chain, stamp_before, steps_precede}
use Rattle.gl_causes.proofs.Telling.{Laid, commit_goes, edge_in, edge_out, handed_other, handed_own, rise}
use Rattle.gl_raised.proofs.Racing.{commit_event}

module _ (setting : Setting) (R : Lists) (h : List Stamp) (now : State) (rows : List (List ℕ)) (stands : List Stand)
    (L : Laid setting R h now rows stands) where
  -- c is an event, and the last one before it in its list is at position b
  module _ (c : Place) (q : ℕ) (s : Stamp) (made : IsEventAt R c q s) (b : ℕ) (last : LastEvent (R c.thread) c.index b) where
    -- a plain access between the two
    abbrev its : Access
    its = record { thread = c.thread; block = b; variables = None }

    -- along the list of each thread the positions of its events rise
    rises : PositionsRise R
    rises = rise setting R h now rows stands L

    -- a plain access of c's thread in the block b is an access of the history
    is_access : IsAccessOf h (record { thread = c.thread; block = b; variables = None })
    is_access =
        let e = event_before R h L.is_list rises c q s made b last in record {
          event = stamp_before R h L.is_list rises c q s made b last;
          there = L.is_list.listed (record { thread = c.thread; index = last.index }) b
              (stamp_before R h L.is_list rises c q s made b last) e;
          own = refl;
          goes_on = λ ends. no_end c.thread (R c.thread) (L.form.formed c.thread) c.index made.entry made.there q made.position b last
              ((event_there last.entry b last.position).1 ∙ ap Some ends);
          commit = λ xs w. absurd (cc);
        }

    -- what another thread knows behind its event at k has passed the access exactly where the access precedes what it does there
    clock_told : (t k : ℕ) (r : Stamp) → EventAt h k r → r.thread ≡ t → r.event ≢ Does End → c.thread ≢ t
        → (b + 1 < clocks (take (k + 1) h) (Thread t) c.thread) ↔ Precedes h its t k
    clock_told t k r there own goes apart = subst (λ u. (b + 1 < clocks (take (k + 1) h) (Thread u) c.thread) ↔ Precedes h its u k) own
        (precede_law setting h now L.allowed its is_access k r there goes (λ e. apart (e ∙ own)))

    -- what a commit hands on has passed the access exactly where the access reaches the commit's event
    handed_told : (m : Stand) → IsStand R m → IsCommit m.entry → (k : ℕ) (r : Stamp) → IsEventAt R m.place k r
        → (b + 1 < handed_on rows m c.thread) ↔ Reaches h its k
    handed_told m is commit k r e = by (c.thread == m.place.thread) refl
      where
        at_k : EventAt h k r
        at_k = L.is_list.listed m.place k r e

        by : (o : Bool) → (c.thread == m.place.thread) ≡ o → (b + 1 < handed_on rows m c.thread) ↔ Reaches h its k
        by true same =
            let own : c.thread ≡ m.place.thread = eqb-true c.thread m.place.thread same in
            let hands = handed_own setting R h now rows stands L m is commit k r e c.thread own in
            (λ l. own_later r at_k (omega arith) (e.own ∙ sym own), λ w. let y = reaches_later w in omega arith)
        by false other =
            let apart : c.thread ≢ m.place.thread = (λ x. let z : (c.thread == m.place.thread) ≡ true = eq-eqb c.thread m.place.thread x
            in cc) in
            let hands = handed_other setting R h now rows stands L m is commit k r e c.thread apart in
            let t = clock_told m.place.thread k r at_k e.own (commit_goes setting R h now rows stands L m is commit k r e) apart in (
              λ l. reach (t.0 (let z : b + 1 < clocks (take (k + 1) h) (Thread m.place.thread) c.thread = omega arith in z)),
              λ w. let y = t.1 (record { position = k; event = r; here = at_k; own = e.own; within = omega arith; reached = w })
                  in omega arith,
            )
          where
            reach : Precedes h its m.place.thread k → Reaches h its k
            reach p = elim (eq-or-lt_of_le p.within) [
              | inl same ↦ rw same at p.reached
              | inr lt ↦ thread_on p.event r p.reached p.here at_k lt (e.own ∙ sym p.own)
            ]

    -- before a refused entry
    module _ (d : Place) (f : Entry) (here : EntryAt R d f) (kind : IsPlain f ⊎ IsRefusedCommit f) (access : IsAccess f) (p : ℕ)
        (block : IsBlockOf R d p) (apart : c.thread ≢ d.thread) (known : List ℕ) (knows : Knows rows stands p f known) where
      no_event : (k : ℕ) → position_of f ≡ Some k → ⊥
      no_event k = elim kind [ inl plain ↦ plain_no_event f k plain | inr refused ↦ refused_not_event f k refused ]

      row : (b + 1 < cell rows p c.thread) ↔ Precedes h its d.thread p
      row =
          let there = L.is_list.listed (record { thread = d.thread; index = block.index }) p block.event block.made in
          let same : cell rows p c.thread ≡ clocks (take (p + 1) h) (Thread d.thread) c.thread =
          L.clocks_are.known p c.thread block.event there ∙ ap (λ t. clocks (take (p + 1) h) (Thread t) c.thread) block.made.own in
          let t = clock_told d.thread p block.event there block.made.own (goes_on R L.form d f here access p block) apart in
          (λ l. t.0 (omega arith), λ w. let y = t.1 w in omega arith)

      by_learned : IsLearned rows stands (refused_numbers f) c.thread (b + 1) → HappensBefore R c d
      by_learned w = elim kind [
        | inl plain ↦ absurd (none_before w.1.0.entry f plain w.1.2)
        | inr refused ↦
            (let m = w.1.0 in
            let is = (L.stands_are.each w.0 m w.1.1).0 in
            let o = edge_out setting R h now rows stands L d f here refused m is w.1.2 in
            let v = commit_event R m.place m.entry is.there o.0 in
            elim (reached_chain R h L.is_list rises c q s made b last ((handed_told m is o.0 v.0 v.1 v.2).0 w.1.3) m.place v.1 v.2) [
              | inl same ↦ from_commit (subst (λ z. RefusedCommitEdge R z d) (sym same) o.1)
              | inr k ↦ through_commit m.place k o.1
            ])
      ]

      by_edge : (m : Place) → RefusedCommitEdge R m d → (c ≡ m) ⊎ TransitiveClosure (OrdersDirectly R) c m → b + 1 < at known c.thread
      by_edge m i w =
          let refused : IsRefusedCommit f = subst IsRefusedCommit (same_entry R d i.refused f i.here here) i.is_refused in
          let x = edge_in setting R h now rows stands L d f here refused m i in
          let v = commit_event R x.1.0.place x.1.0.entry x.1.3.there x.1.4 in
          let reach = event_reached R h L.is_list rises c q s made b last x.1.0.place v.0 v.1 v.2
          (subst (λ z. (c ≡ z) ⊎ TransitiveClosure (OrdersDirectly R) c z) (sym x.1.2) w) in
          (knows c.thread (b + 1)).1
          (inr (x.0, (x.1.0, x.1.1, x.1.5, (handed_told x.1.0 x.1.3 x.1.4 v.0 v.1 v.2).1 reach)))

      -- the event happens before it exactly where what its thread knows is beyond the block before the event
      pub led_out : b + 1 < at known c.thread → HappensBefore R c d
      led_out l = elim ((knows c.thread (b + 1)).0 l) [
        | inl w ↦ by_steps (precede_steps R h L.is_list rises c q s made b last d f here no_event p block apart (row.0 w))
        | inr w ↦ by_learned w
      ]

      pub led_in : HappensBefore R c d → b + 1 < at known c.thread
      led_in (by_steps k) = (knows c.thread (b + 1)).1
          (inl (row.1 (steps_precede R h L.is_list rises c q s made b last d f here no_event p block apart k)))
      led_in (from_commit i) = by_edge c i (inl refl)
      led_in (through_commit m k i) = by_edge m i (inr k)

  -- of another thread u, before a refused entry
  module _ (d : Place) (f : Entry) (here : EntryAt R d f) (kind : IsPlain f ⊎ IsRefusedCommit f) (access : IsAccess f) (p : ℕ)
      (block : IsBlockOf R d p) (known : List ℕ) (knows : Knows rows stands p f known) (u : ℕ) (apart : u ≢ d.thread) where
    -- if what is known of u is beyond the block before an event of u, that event happens before the entry at d
    passed_leads : (i : ℕ) → IsPassed (R u) (at known u) i → HappensBefore R (record { thread = u; index = i }) d
    passed_leads i w =
        let v = event_there w.entry w.position w.event in
        led_out (record { thread = u; index = i }) w.position (record { thread = u; event = v.0 })
        (record { entry = w.entry; there = w.there; position = w.event; event = v.1; own = refl }) w.block
        (last_event (R u) i w.block w.before) d f here kind access p block apart known knows w.passed

    -- if an entry of u happens before the entry at d, some event of u at it or behind it has the block before it passed by what is known
    leads_passed : (i : ℕ) → HappensBefore R (record { thread = u; index = i }) d → (j : ℕ) × (i ≤ j) × IsPassed (R u) (at known u) j
    leads_passed i before =
        let w = ahead R (record { thread = u; index = i }) d apart before in
        let j = w.0.index in
        let same : w.0 ≡ record { thread = u; index = j } = same_place w.0 (record { thread = u; index = j }) (sym w.1.own) refl in
        let e : IsEventAt R (record { thread = u; index = j }) w.1.position w.1.event = subst
        (λ z. IsEventAt R z w.1.position w.1.event) same w.1.made in
        let leads : HappensBefore R (record { thread = u; index = j }) d = subst (λ z. HappensBefore R z d) same w.2 in
        let entry : w.1.made.entry ≡ e.entry = same_entry R (record { thread = u; index = j }) w.1.made.entry e.entry
        (subst (λ z. EntryAt R z w.1.made.entry) same w.1.made.there) e.there in
        let b = prior u (R u) (L.form.formed u) j e.entry e.there w.1.position e.position
        (λ begin. w.1.no_begin (subst IsBegin (sym entry) begin)) in (
          j,
          w.1.within,
          record {
            entry = e.entry;
            there = e.there;
            position = w.1.position;
            event = e.position;
            block = b.0;
            before = b.1;
            passed = led_in (record { thread = u; index = j }) w.1.position w.1.event e b.0 (last_event (R u) j b.0 b.1) d f here kind
                access p block apart known knows leads;
          },
        )

    -- the last place of u's list that the entry's clock has passed is that of the last event of u that leads to the entry, if there is one
    pub led : (o : Option StoredPlace) → IsPlacePassed (R u) u (at known u) o → IsLed R d u o
    led None none = λ i l before. let w = leads_passed i before in none w.0 w.2
    led (Some c) w =
        let k = w.1.0 in record {
          thread = w.0;
          entry = k.entry;
          there = subst (λ t. EntryAt R (record { thread = t; index = c.index }) k.entry) (sym w.0) k.there;
          position = k.position;
          event = k.event;
          leads = subst (λ t. HappensBefore R (record { thread = t; index = c.index }) d) (sym w.0) (passed_leads c.index k);
          last = λ i l before. let v = leads_passed i before in let m = v.1 in w.1.1 v.0 (omega arith) v.2;
        }
