-- An access comes before what another thread does in a block exactly where it happens before an entry in that block that is no event.
use Rattle.std.proofs.Common.{◌≡◌, ◌≢◌, ℕ, ◌<◌, List, Some, refl, subst, sym, ◌∙◌, inl, inr, arith}
use Rattle.std.proofs.lemmas.Bool.{cases_lt}
use Rattle.std.proofs.Math.Nat.{eq-or-lt_of_le}
use Rattle.gl_model.specs.declared.event.Stamp.{Stamp}
use Rattle.gl_model.specs.Edges.{TransitiveClosure, then_step}
use Rattle.gl_model.specs.Entries.{Entry}
use Rattle.gl_model.specs.HappensBefore.{HappensBefore, by_steps, from_commit, through_commit, program_order, OrdersDirectly}
use Rattle.gl_model.specs.Locksets.{Access}
use Rattle.gl_model.specs.Records.{Lists, Place, EntryAt, IsEventAt, IsEventList, PositionsRise, IsBlockOf, IsPlain, position_of}
use Rattle.gl_laws.specs.Closure.{StandsFor}
use Rattle.gl_laws.proofs.Bridge.{same_entry, event_thread, same_place, moved, up_to, chain_reaches, reaches_chain, ReachedUpTo}
use Rattle.gl_laws.proofs.NextLaw.{plain_not}
use Rattle.gl_draws.specs.Verdicts.{Precedes}

-- d is an entry that is no event, in the block of the event at q; c is another, whose access is a
module _ (R : Lists) (h : List Stamp) (is_list : IsEventList h R) (rise : PositionsRise R) (c : Place) (a : Access)
    (stood : StandsFor R c a) (d : Place) (f : Entry) (here : EntryAt R d f) (no_event : (p : ℕ) → position_of f ≡ Some p → ⊥) (q : ℕ)
    (of_d : IsBlockOf R d q) where
  -- what comes before by steps comes before the block of the entry
  pub by_steps_precedes : c.thread ≢ d.thread → TransitiveClosure (OrdersDirectly R) c d → Precedes h a d.thread q
  by_steps_precedes apart k = elim (chain_reaches R h is_list rise c a stood k) [ inl lt ↦ absurd (apart lt.0) | inr u ↦ from u ]
    where
      from : ReachedUpTo R h is_list rise c a stood d → Precedes h a d.thread q
      from u = record {
        position = u.position;
        event = u.event;
        here = is_list.listed u.place u.position u.event u.made;
        own = event_thread u.made ∙ u.own;
        within = elim (up_to R h is_list rise u.place (record { thread = d.thread; index = of_d.index }) u.position q u.event of_d.event
            u.made of_d.made u.own (of_d.last u.place.index u.position u.event
            (moved (same_place u.place (record { thread = d.thread; index = u.place.index }) u.own refl) u.made) u.before))
            [ inl same ↦ (let e' : u.position ≡ q = same in omega arith) | inr lt ↦ (let l : u.position < q = lt in omega arith) ];
        reached = u.reached;
      }

  -- so does what happens before a plain one
  pub precedes : IsPlain f → c.thread ≢ d.thread → HappensBefore R c d → Precedes h a d.thread q
  precedes plain apart (by_steps k) = by_steps_precedes apart k
  precedes plain apart (from_commit i) = absurd (plain_not f plain (rw (same_entry R d i.refused f i.here here) at i.is_refused))
  precedes plain apart (through_commit b k i) = absurd (plain_not f plain (rw (same_entry R d i.refused f i.here here) at i.is_refused))

  -- and what comes before the block happens before the entry
  pub happens_before : Precedes h a d.thread q → HappensBefore R c d
  happens_before p = by_steps (then_step (reaches_chain R h is_list rise c a stood p.reached b.0 p.event b.1) (program_order (t, lt)))
    where
      b : (b : Place) × IsEventAt R b p.position p.event
      b = is_list.made p.position p.event p.here

      t : b.0.thread ≡ d.thread
      t = sym (event_thread b.1) ∙ p.own

      lt : b.0.index < d.index
      lt = elim (cases_lt b.0.index d.index) [
        | inl less ↦ less
        | inr ge ↦ absurd (elim (eq-or-lt_of_le ge) [
          | inl same ↦ no_event p.position (rw (same_entry R b.0 b.1.entry f b.1.there
              (subst (λ z. EntryAt R z f) (sym (same_place b.0 d t (sym same))) here)) at b.1.position)
          | inr less ↦
              (let w = of_d.within in
              let r : q < p.position = rise (record { thread = d.thread; index = of_d.index }) b.0 q p.position of_d.event p.event
              of_d.made b.1 (sym t, omega arith) in
              let v = p.within in omega arith)
        ])
      ]
