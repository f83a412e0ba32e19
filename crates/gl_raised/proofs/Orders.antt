-- What happens before an access of a record, told by what precedes its block.
use Rattle.std.proofs.Common.{◌≡◌, ◌≢◌, ℕ, ◌+◌, ◌<◌, List, take, ap, sym, ◌∙◌, subst, inl, inr, arith, None}
use Rattle.std.specs.Prelude.{◌⊎◌, ◌↔◌}
use Rattle.std.proofs.Math.Nat.{eq-or-lt_of_le}
use Rattle.gl_model.specs.declared.event.Act.TheVariants.{End}
use Rattle.gl_model.specs.declared.event.Event.TheVariants.{Act as Does}
use Rattle.gl_model.specs.declared.event.Stamp.{Stamp}
use Rattle.gl_model.specs.declared.event.Element.TheVariants.{Thread}
use Rattle.gl_model.specs.Edges.{EventAt}
use Rattle.gl_model.specs.Entries.{Entry, Commit}
use Rattle.gl_model.specs.HappensBefore.{HappensBefore, by_steps, from_commit, through_commit, IsCommit, IsRefusedCommit, RefusedCommitEdge}
use Rattle.gl_model.specs.Locksets.{Access}
use Rattle.gl_model.specs.Machine.{Setting, State, Allows}
use Rattle.gl_model.specs.Next.{Reaches, own_later, thread_on}
use Rattle.gl_model.specs.Records.{Lists, Place, EntryAt, IsEventAt, IsEventList, PositionsRise, IsBlockOf, IsPlain}
use Rattle.gl_laws.specs.Closure.{StandsFor}
use Rattle.gl_laws.proofs.Bridge.{same_entry, event_thread, plain_no_event, reaches_chain}
use Rattle.gl_laws.proofs.NextLaw.{commit_not_plain, refused_not_event, reached}
use Rattle.gl_draws.specs.Verdicts.{Precedes}
use Rattle.gl_draws.proofs.BlockOrder.{by_steps_precedes, precedes, happens_before}
use Rattle.gl_clocks.specs.Clocks.{clocks, tick, tick_of}
use Rattle.gl_clocks.proofs.Ordered.{stands_access}
use Rattle.gl_clocks.proofs.Within.{precede_law}
use Rattle.gl_laws.proofs.Closure.{reaches_later}

-- no entry is a commit and a refused one
commit_not_refused : (e : Entry) → IsCommit e → IsRefusedCommit e → ⊥
commit_not_refused (Commit at tx) i r = r
commit_not_refused _ i r = i

module _ (setting : Setting) (R : Lists) (h : List Stamp) (now : State) (is_list : IsEventList h R) (rise : PositionsRise R)
    (allowed : Allows setting h now) (c : Place) (a : Access) (stands : StandsFor R c a) where
  -- the clock of the block's thread, after the block's event, tells what precedes the block
  pub block_told : (d : Place) (q : ℕ) → (b : IsBlockOf R d q) → b.event.event ≢ Does End → c.thread ≢ d.thread
      → (tick a < clocks (take (q + 1) h) (Thread d.thread) a.thread) ↔ Precedes h a d.thread q
  block_told d q b goes apart =
      let at : EventAt h q b.event = is_list.listed (record { thread = d.thread; index = b.index }) q b.event b.made in
      let own : b.event.thread ≡ d.thread = b.made.own in
      let other : a.thread ≢ b.event.thread = (λ e. apart (sym stands.thread ∙ e ∙ own)) in
      let m = precede_law setting h now allowed a (stands_access R h is_list c a stands) q b.event at goes other in
      subst (λ u. (tick a < clocks (take (q + 1) h) (Thread u) a.thread) ↔ Precedes h a u q) own m

  -- a plain entry
  pub plain_told : (d : Place) (f : Entry) → EntryAt R d f → IsPlain f → (q : ℕ) → IsBlockOf R d q → c.thread ≢ d.thread
      → Precedes h a d.thread q ↔ HappensBefore R c d
  plain_told d f here plain q b apart = (
    λ p. happens_before R h is_list rise c a stands d f here (λ p. plain_no_event f p plain) q b p,
    λ k. precedes R h is_list rise c a stands d f here (λ p. plain_no_event f p plain) q b plain apart k,
  )

  -- what precedes an event is reached
  precedes_reaches : (d : Place) (q : ℕ) (s : Stamp) → IsEventAt R d q s → Precedes h a d.thread q → Reaches h a q
  precedes_reaches d q s made p = elim (eq-or-lt_of_le p.within) [
    | inl same ↦ rw same at p.reached
    | inr lt ↦ thread_on p.event s p.reached p.here (is_list.listed d q s made) lt (event_thread made ∙ sym p.own)
  ]

  -- what reaches an event precedes it
  reaches_precedes : (d : Place) (q : ℕ) (s : Stamp) → IsEventAt R d q s → Reaches h a q → Precedes h a d.thread q
  reaches_precedes d q s made r = record {
    position = q;
    event = s;
    here = is_list.listed d q s made;
    own = event_thread made;
    within = omega arith;
    reached = r;
  }

  -- a commit
  pub commit_told : (d : Place) (f : Entry) → EntryAt R d f → IsCommit f → (q : ℕ) (s : Stamp) → IsEventAt R d q s
      → Precedes h a d.thread q ↔ HappensBefore R c d
  commit_told d f here is q s made = (
    λ p. by_steps (reaches_chain R h is_list rise c a stands (precedes_reaches d q s made p) d s made),
    λ k. back k,
  )
    where
      back : HappensBefore R c d → Precedes h a d.thread q
      back (by_steps k) = reaches_precedes d q s made (reached R h is_list rise c a stands d q s made k)
      back (from_commit i) = absurd (commit_not_refused f is (rw (same_entry R d i.refused f i.here here) at i.is_refused))
      back (through_commit b k i) = absurd (commit_not_refused f is (rw (same_entry R d i.refused f i.here here) at i.is_refused))

  -- what the access reaches by a commit that comes before a refused one
  pub record ByCommit (d : Place) : Type 0 where
    pub commit : Place
    pub edge : RefusedCommitEdge R commit d
    pub position : ℕ
    pub event : Stamp
    pub made : IsEventAt R commit position event
    pub reached : Reaches h a position

  -- a refused commit, and a plain access
  pub refused_told :
      (d : Place) (f : Entry) → EntryAt R d f → IsRefusedCommit f → (q : ℕ) → IsBlockOf R d q → c.thread ≢ d.thread → (e : Entry)
      → EntryAt R c e → IsPlain e →
      ((b : Place) (g : Entry) → EntryAt R b g → IsCommit g → (p : ℕ) × (s : Stamp) × IsEventAt R b p s) →
      (Precedes h a d.thread q ⊎ ByCommit d) ↔ HappensBefore R c d
  refused_told d f here is q b apart e there plain events = (
    λ w. elim w [
      | inl p ↦ happens_before R h is_list rise c a stands d f here (λ p. refused_not_event f p is) q b p
      | inr k ↦ through_commit k.commit (reaches_chain R h is_list rise c a stands k.reached k.commit k.event k.made) k.edge
    ],
    λ k. back k,
  )
    where
      back : HappensBefore R c d → Precedes h a d.thread q ⊎ ByCommit d
      back (by_steps k) = inl (by_steps_precedes R h is_list rise c a stands d f here (λ p. refused_not_event f p is) q b apart k)
      back (from_commit i) = absurd (commit_not_plain e plain (rw (same_entry R c i.made e i.there there) at i.is_commit))
      back (through_commit m k i) =
          let v = events m i.made i.there i.is_commit in
          inr (record {
            commit = m;
            edge = i;
            position = v.0;
            event = v.1;
            made = v.2;
            reached = reached R h is_list rise c a stands m v.0 v.1 v.2 k;
          })

  -- a plain access reaches an event of another thread exactly where the clock of that thread after it has passed the access
  pub other_reaches : (d : Place) (q : ℕ) (s : Stamp) → IsEventAt R d q s → s.event ≢ Does End → (b : IsBlockOf R d q)
      → c.thread ≢ d.thread → (tick a < clocks (take (q + 1) h) (Thread d.thread) a.thread) ↔ Reaches h a q
  other_reaches d q s made goes b apart =
      let same : b.event ≡ s = one_event in
      let m = block_told d q b (λ e. goes (ap (λ (r : Stamp). r.event) (sym same) ∙ e)) apart in
      (λ l. precedes_reaches d q s made (m.0 l), λ r. m.1 (reaches_precedes d q s made r))
    where
      one_event : b.event ≡ s
      one_event =
          let x : EventAt h q b.event = is_list.listed (record { thread = d.thread; index = b.index }) q b.event b.made in
          let y : EventAt h q s = is_list.listed d q s made in
          cc

  -- and one of its own thread exactly where that is later
  pub own_reaches : (d : Place) (q : ℕ) (s : Stamp) → IsEventAt R d q s → c.thread ≡ d.thread → a.variables ≡ None
      → (tick a < q + 1) ↔ Reaches h a q
  own_reaches d q s made same plain =
      let t : tick a ≡ a.block + 1 = ap (tick_of a.block) plain in (
        λ l. own_later s (is_list.listed d q s made) (omega arith) (event_thread made ∙ sym same ∙ sym stands.thread),
        λ r. let k =
            reaches_later r in omega arith,
      )
