-- What an event of a thread leads to, told by a plain access in the block before it, which no entry need make.
use Rattle.std.proofs.Common.{◌≡◌, ◌≢◌, ℕ, ◌<◌, ◌≤◌, List, refl, ap, sym, ◌∙◌, subst, inl, inr, arith, Some, None}
use Rattle.std.specs.Prelude.{◌⊎◌}
use Rattle.std.proofs.lemmas.Bool.{cases_lt}
use Rattle.std.proofs.Math.Nat.{eq-or-lt_of_le}
use Rattle.gl_draws.proofs.DrawPlaces.{LastEvent, event_there}
use Rattle.gl_draws.specs.Verdicts.{Precedes}
use Rattle.gl_laws.proofs.Bridge.{moved, same_entry, same_place, up_to}
use Rattle.gl_laws.proofs.Closure.{same_event}
use Rattle.gl_model.specs.declared.event.Stamp.{Stamp}
use Rattle.gl_model.specs.Edges.{SynchronizesWith, TransitiveClosure, one_step, then_step}
use Rattle.gl_model.specs.Entries.{Entry}
use Rattle.gl_model.specs.HappensBefore.{OrdersDirectly, program_order, synchronizes}
use Rattle.gl_model.specs.Locksets.{Access}
use Rattle.gl_model.specs.Next.{Reaches, own_later, commit_edge, thread_on, edge_on}
use Rattle.gl_model.specs.Records.{Lists, Place, EntryAt, InProgramOrder, IsEventAt, IsEventList, IsBlockOf, PositionsRise, position_of}

-- c is an event, and the last one before it in its list is at position b
module _ (R : Lists) (h : List Stamp) (is_list : IsEventList h R) (rise : PositionsRise R) (c : Place) (q : ℕ) (s : Stamp)
    (made : IsEventAt R c q s) (b : ℕ) (last : LastEvent (R c.thread) c.index b) where
  -- a plain access between the two
  abbrev pub between : Access
  between = record { thread = c.thread; block = b; variables = None }

  abbrev before : Place
  before = record { thread = c.thread; index = last.index }

  abbrev pub stamp_before : Stamp
  stamp_before = record { thread = c.thread; event = (event_there last.entry b last.position).0 }

  -- the event at position b has its place in the list of c, before c
  pub event_before : IsEventAt R (record { thread = c.thread; index = last.index }) b stamp_before
  event_before = record {
    entry = last.entry;
    there = last.there;
    position = last.position;
    event = (event_there last.entry b last.position).1;
    own = refl;
  }

  -- an event of the thread at c or behind it has a higher position
  above : (m : Place) (k : ℕ) (r : Stamp) → IsEventAt R m k r → c.thread ≡ m.thread → c.index ≤ m.index → b < k
  above m k r e own le = rise before m b k stamp_before r event_before e (own, let l = last.within in omega arith)

  -- and one with a higher position is at c or behind it
  behind : (m : Place) (k : ℕ) (r : Stamp) → IsEventAt R m k r → c.thread ≡ m.thread → b < k → (c ≡ m) ⊎ InProgramOrder c m
  behind m k r e own l = elim (cases_lt c.index m.index) [
    | inl lt ↦ inr (own, lt)
    | inr ge ↦ elim (eq-or-lt_of_le ge) [
      | inl same ↦ inl (same_place c m own (sym same))
      | inr lt ↦ absurd (not_before lt)
    ]
  ]
    where
      not_before : m.index < c.index → ⊥
      not_before lt =
          let e' : IsEventAt R (record { thread = c.thread; index = m.index }) k r =
          moved (same_place m (record { thread = c.thread; index = m.index }) (sym own) refl) e in
          let le : m.index ≤ last.index = last.last m.index k e'.entry e'.there lt e'.position in
          elim (up_to R h is_list rise (record { thread = c.thread; index = m.index }) before k b r stamp_before e' event_before refl le) [
            | inl z ↦ (let y : k ≡ b = z in omega arith)
            | inr z ↦ (let y : k < b = z in omega arith)
          ]

  -- the access reaches each event of its own thread at c or behind it
  own_reached : (m : Place) (k : ℕ) (r : Stamp) → IsEventAt R m k r → c.thread ≡ m.thread → c.index ≤ m.index → Reaches h between k
  own_reached m k r e own le = own_later r (is_list.listed m k r e) (above m k r e own le) (e.own ∙ sym own)

  -- of two events of one thread that with the lower position stands before the other
  in_order : (m n : Place) (k l : ℕ) (r t : Stamp) → IsEventAt R m k r → IsEventAt R n l t → m.thread ≡ n.thread → k < l
      → InProgramOrder m n
  in_order m n k l r t e f own lt = elim (cases_lt m.index n.index) [
    | inl less ↦ (own, less)
    | inr ge ↦ absurd (elim (up_to R h is_list rise n m l k t r f e (sym own) ge) [
      | inl z ↦ (let y : l ≡ k = z in omega arith)
      | inr z ↦ (let y : l < k = z in omega arith)
    ])
  ]

  -- one step after c, or after what comes after c by steps, comes after c by steps
  after : {m n : Place} → (c ≡ m) ⊎ TransitiveClosure (OrdersDirectly R) c m → OrdersDirectly R m n
      → TransitiveClosure (OrdersDirectly R) c n
  after {m = m} {n = n} (inl same) step = one_step (subst (λ z. OrdersDirectly R z n) (sym same) step)
  after (inr k) step = then_step k step

  -- what the access between them reaches is c, or comes after it by steps
  pub reached_chain : {k : ℕ} → Reaches h between k → (m : Place) (r : Stamp) → IsEventAt R m k r
      → (c ≡ m) ⊎ TransitiveClosure (OrdersDirectly R) c m
  reached_chain {k = k} (own_later t e l own) m r f =
      let same : t ≡ r = same_event h k t r e (is_list.listed m k r f) in
      let thread : c.thread ≡ m.thread = sym own ∙ ap (λ (x : Stamp). x.thread) same ∙ f.own in
      elim (behind m k r f thread l) [ inl here ↦ inl here | inr lt ↦ inr (one_step (program_order lt)) ]
  reached_chain {k = k} (commit_edge t ys e l w on) m r f = absurd (let z = on.are in cc)
  reached_chain {k = k} (thread_on {p = p} t t' reach e e' l own) m r f =
      let g = is_list.made p t e in
      let same : t' ≡ r = same_event h k t' r e' (is_list.listed m k r f) in
      let thread : g.0.thread ≡ m.thread = sym g.1.own ∙ sym own ∙ ap (λ (x : Stamp). x.thread) same ∙ f.own in
      inr (after (reached_chain reach g.0 t g.1) (program_order (in_order g.0 m p k t r g.1 f thread l)))
  reached_chain {k = k} (edge_on {p = p} t t' reach e e' l w) m r f =
      let g = is_list.made p t e in
      let same : t' ≡ r = same_event h k t' r e' (is_list.listed m k r f) in
      inr (after (reached_chain reach g.0 t g.1) (synchronizes p k t r g.1 f l (subst (SynchronizesWith t) same w)))

  -- an event at or before d in the list of its thread that the access reaches
  pub record IsReachedUpTo (d : Place) : Type 0 where
    pub place : Place
    pub position : ℕ
    pub event : Stamp
    pub reached : Reaches h between position
    pub made_at : IsEventAt R place position event
    pub own : place.thread ≡ d.thread
    pub within : place.index ≤ d.index

  -- if the access reaches the event at d, it reaches one at or before d
  at_event : {d : Place} {k : ℕ} {r : Stamp} → IsEventAt R d k r → Reaches h between k → IsReachedUpTo d
  at_event {d = d} {k = k} {r = r} e reach =
      record { place = d; position = k; event = r; reached = reach; made_at = e; own = refl; within = omega arith }

  -- where the access reaches an event at or before d in d's list, it reaches the event at d
  pub up_reached : {d : Place} (k : ℕ) (r : Stamp) → IsReachedUpTo d → IsEventAt R d k r → Reaches h between k
  up_reached {d = d} k r u e = elim (up_to R h is_list rise u.place d u.position k u.event r u.made_at e u.own u.within) [
    | inl same ↦ subst (Reaches h between) (let y : u.position ≡ k = same in y) u.reached
    | inr lt ↦ thread_on u.event r u.reached (is_list.listed u.place u.position u.event u.made_at) (is_list.listed d k r e) lt
        (e.own ∙ sym u.own ∙ sym u.made_at.own)
  ]

  -- one step on from behind c in its list, or from at or behind an event that the access reaches, leads to such a place again
  step_on : {m n : Place} → InProgramOrder c m ⊎ IsReachedUpTo m → OrdersDirectly R m n → InProgramOrder c n ⊎ IsReachedUpTo n
  step_on (inl lt) (program_order o) = inl (lt.0 ∙ o.0, let x = lt.1 in let y = o.1 in omega arith)
  step_on (inr u) (program_order o) = inr (record {
    place = u.place;
    position = u.position;
    event = u.event;
    reached = u.reached;
    made_at = u.made_at;
    own = u.own ∙ o.0;
    within = let x = u.within in let y = o.1 in omega arith;
  })
  step_on {m = m} {n = n} (inl lt) (synchronizes k l r t e f less w) =
      inr (at_event f (edge_on r t (own_reached m k r e lt.0 (let x = lt.1 in omega arith)) (is_list.listed m k r e)
      (is_list.listed n l t f) less w))
  step_on {m = m} {n = n} (inr u) (synchronizes k l r t e f less w) =
      inr (at_event f (edge_on r t (up_reached k r u e) (is_list.listed m k r e) (is_list.listed n l t f) less w))

  -- what comes after c by steps is behind it in its list, or at or behind an event that the access reaches
  pub chain_reached : {d : Place} → TransitiveClosure (OrdersDirectly R) c d → InProgramOrder c d ⊎ IsReachedUpTo d
  chain_reached (one_step (program_order lt)) = inl lt
  chain_reached {d = d} (one_step (synchronizes k l r t e f less w)) =
      inr (at_event f (edge_on r t (own_reached c k r e refl (omega arith)) (is_list.listed c k r e) (is_list.listed d l t f) less w))
  chain_reached (then_step k step) = step_on (chain_reached k) step

  -- so the access reaches an event exactly where that comes after c by steps, or is c
  pub event_reached : (m : Place) (k : ℕ) (r : Stamp) → IsEventAt R m k r → (c ≡ m) ⊎ TransitiveClosure (OrdersDirectly R) c m
      → Reaches h between k
  event_reached m k r e (inl same) = own_reached m k r e (ap (λ (z : Place). z.thread) same)
      (let z : c.index ≡ m.index = ap (λ (z : Place). z.index) same in omega arith)
  event_reached m k r e (inr w) = elim (chain_reached w) [
    | inl lt ↦ own_reached m k r e lt.0 (let x = lt.1 in omega arith)
    | inr u ↦ up_reached k r u e
  ]

  -- d is an entry of another thread that is no event, in the block of the event at p
  module _ (d : Place) (f : Entry) (here : EntryAt R d f) (no_event : (k : ℕ) → position_of f ≡ Some k → ⊥) (p : ℕ)
      (of_d : IsBlockOf R d p) (apart : c.thread ≢ d.thread) where
    -- where steps lead from c to d, the access precedes what d's thread does in the block of d
    pub steps_precede : TransitiveClosure (OrdersDirectly R) c d → Precedes h between d.thread p
    steps_precede k = elim (chain_reached k) [ inl lt ↦ absurd (apart lt.0) | inr u ↦ from u ]
      where
        from : IsReachedUpTo d → Precedes h between d.thread p
        from u = record {
          position = u.position;
          event = u.event;
          here = is_list.listed u.place u.position u.event u.made_at;
          own = u.made_at.own ∙ u.own;
          within = elim (up_to R h is_list rise u.place (record { thread = d.thread; index = of_d.index }) u.position p u.event of_d.event
              u.made_at of_d.made u.own (of_d.last u.place.index u.position u.event
              (moved (same_place u.place (record { thread = d.thread; index = u.place.index }) u.own refl) u.made_at) u.within))
              [ inl same ↦ (let e' : u.position ≡ p = same in omega arith) | inr lt ↦ (let l : u.position < p = lt in omega arith) ];
          reached = u.reached;
        }

    -- and where it precedes that, steps lead from c to d
    pub precede_steps : Precedes h between d.thread p → TransitiveClosure (OrdersDirectly R) c d
    precede_steps w = elim (reached_chain w.reached m.0 w.event m.1) [
      | inl same ↦ absurd (apart (ap (λ (z : Place). z.thread) same ∙ t))
      | inr k ↦ then_step k (program_order (t, lt))
    ]
      where
        m : (m : Place) × IsEventAt R m w.position w.event
        m = is_list.made w.position w.event w.here

        t : m.0.thread ≡ d.thread
        t = sym m.1.own ∙ w.own

        lt : m.0.index < d.index
        lt = elim (cases_lt m.0.index d.index) [
          | inl less ↦ less
          | inr ge ↦ absurd (elim (eq-or-lt_of_le ge) [
            | inl same ↦ no_event w.position (rw (same_entry R m.0 m.1.entry f m.1.there
                (subst (λ z. EntryAt R z f) (sym (same_place m.0 d t (sym same))) here)) at m.1.position)
            | inr less ↦
                (let x = of_d.within in
                let r : p < w.position = rise (record { thread = d.thread; index = of_d.index }) m.0 p w.position of_d.event w.event
                of_d.made m.1 (sym t, omega arith) in
                let v = w.within in omega arith)
          ])
        ]
