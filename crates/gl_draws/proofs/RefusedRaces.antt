-- At the end a refused attempt is racy on the variable that it names, and on none below it.
use Rattle.std.proofs.Common.{◌≡◌, ◌≢◌, ℕ, ◌<◌, ◌≤◌, List, [], length, take, drop, refl, ap, subst, sym, ◌∙◌, inl, inr, arith, Some, None, true}
use Rattle.std.specs.Prelude.{Contains}
use Rattle.std.proofs.lemmas.Bool.{cases_lt}
use Rattle.std.proofs.lemmas.List.{take-append-drop, length-take-le}
use Rattle.std.proofs.lemmas.Option.{slice_get_within}
use Rattle.std.proofs.Math.Nat.{eq-or-lt_of_le}
use Rattle.gl_model.specs.declared.event.Event.TheVariants.{Commit as Commits}
use Rattle.gl_model.specs.declared.event.Stamp.{Stamp}
use Rattle.gl_model.specs.declared.tx.Tx.{Tx}
use Rattle.gl_model.specs.declared.tx.Why.TheVariants.{Raised}
use Rattle.gl_model.specs.Entries.{Entry, Sync, Commit, Plain, Abort, Trim, Over}
use Rattle.gl_model.specs.Edges.{EventAt, TransitiveClosure, then_step}
use Rattle.gl_model.specs.HappensBefore.{HappensBefore, OrdersDirectly, by_steps, from_commit, through_commit, RefusedCommitEdge, IsCommit, IsRacy}
use Rattle.gl_model.specs.Locksets.{Access}
use Rattle.gl_model.specs.Next.{Reaches, own_later, thread_on, HappensBeforeNext}
use Rattle.gl_model.specs.Records.{Lists, Place, EntryAt, IsEventAt, IsBlockOf, NumberOn, InVariableOrder, IsPlain, Conflict, variables_of, event_of, position_of}
use Rattle.gl_model.specs.Trace.{is_in}
use Rattle.gl_laws.specs.Closure.{StandsFor}
use Rattle.gl_laws.proofs.Bridge.{same_entry, event_thread, same_place, moved, above, reaches_chain, chain_reaches, one_position}
use Rattle.gl_laws.proofs.FlatLaws.{own_block}
use Rattle.gl_draws.specs.Cached.{AreAllRight}
use Rattle.gl_draws.specs.Draws.{What, Entered, Draw, access_of, DrawAt, Among}
use Rattle.gl_draws.specs.Ties.{IsFor, IsKept}
use Rattle.gl_draws.specs.Verdicts.{Precedes, IsCommitWhat, DrawHolds}
use Rattle.gl_draws.proofs.CachedRaces.{chain_precedes}
use Rattle.gl_draws.proofs.ClosedCommits.{to_block}
use Rattle.gl_draws.proofs.ClosedRaces.{Numbered, each_numbered}
use Rattle.gl_draws.proofs.DrawEntries.{own_for, block_of_entry, place_of_draw, stands}
use Rattle.gl_draws.proofs.DrawPlaces.{block_of_place, one_draw}
use Rattle.gl_draws.proofs.EntryKinds.{is_in-contains}
use Rattle.gl_draws.proofs.Sets.{map_contains, contains_map}
use Rattle.gl_draws.proofs.Origins.{listed, rise, Origin, origin}
use Rattle.gl_draws.proofs.Reaching.{get_front, reaches_grows, reaches_back}
use Rattle.gl_draws.specs.Refusals.{IsRefusedRightly, IsRefusal, RefusalRight, RefusalsHold, RefusalHolds, AreJudgedOnce}

-- an event below n stands among the first n events
event_front : (h : List Stamp) (n q : ℕ) (s : Stamp) → n ≤ length h → q < n → EventAt h q s → EventAt (take n h) q s
event_front h n q s le lt at =
    let long : length (take n h) ≡ n = length-take-le n h le in
    sym (get_front (take n h) (drop n h) q (omega arith)) ∙ ap (λ l. Rattle.std.specs.Prelude.slice_get l q) (take-append-drop n h) ∙ at

-- an event of the first n stands below n in the whole list
event_whole : (h : List Stamp) (n q : ℕ) (s : Stamp) → n ≤ length h → EventAt (take n h) q s → (q < n) × EventAt h q s
event_whole h n q s le at =
    let long : length (take n h) ≡ n = length-take-le n h le in
    let near = slice_get_within (take n h) q s at in
    let lt : q < n = omega arith in
    (lt, sym (ap (λ l. Rattle.std.specs.Prelude.slice_get l q) (take-append-drop n h)) ∙ get_front (take n h) (drop n h) q near ∙ at)

-- what is reached below n is reached among the first n
reaches_front : (h : List Stamp) (n q : ℕ) (a : Access) → n ≤ length h → q < n → Reaches h a q → Reaches (take n h) a q
reaches_front h n q a le lt r =
    let long : length (take n h) ≡ n = length-take-le n h le in
    reaches_back (take n h) (drop n h) (omega arith) (subst (λ l. Reaches l a q) (sym (take-append-drop n h)) r)

-- what is reached among the first n is reached in the whole list
reaches_whole : (h : List Stamp) (n q : ℕ) (a : Access) → Reaches (take n h) a q → Reaches h a q
reaches_whole h n q a r = subst (λ l. Reaches l a q) (take-append-drop n h) (reaches_grows (take n h) (drop n h) r)

-- an entry that is a commit event is a commit at that position, on those variables
commit_event : (e : Entry) (q : ℕ) (ys : List ℕ) → position_of e ≡ Some q → event_of e ≡ Some (Commits ys) → (tx : Tx) × (e ≡ Commit q tx)
    × (variables_of tx ≡ ys)
commit_event (Commit at tx) q ys p i = (tx, (let z : at ≡ q = cc in ap (λ n. Commit n tx) z), cc)
commit_event (Sync at act value) q ys p i = absurd (cc)
commit_event (Plain a b c d e f) q ys p i = absurd (cc)
commit_event (Abort a b) q ys p i = absurd (cc)
commit_event (Trim a) q ys p i = absurd (cc)
commit_event (Over a) q ys p i = absurd (cc)

-- a commit has a position and a transaction
is_commit : (e : Entry) → IsCommit e → (q : ℕ) × (tx : Tx) × (e ≡ Commit q tx)
is_commit (Commit at tx) i = (at, tx, refl)
is_commit (Sync at act value) i = absurd i
is_commit (Plain a b c d e f) i = absurd i
is_commit (Abort a b) i = absurd i
is_commit (Trim a) i = absurd i
is_commit (Over a) i = absurd i

module _ (R : Lists) (h : List Stamp) (draws : ℕ → List Draw) (k : AreAllRight R h draws) (until : ℕ → ℕ → ℕ) (refused : (x : ℕ)
    → RefusalsHold h (until x) x (draws x)) (agreed : (t : ℕ) → AreJudgedOnce until (R t))
    (d : Place) (tx : Tx) (var : ℕ) (here : EntryAt R d (Abort tx (Raised var))) where
  abbrev f : Entry
  f = Abort tx (Raised var)

  abbrev xs : List ℕ
  xs = variables_of tx

  -- the attempt's own numbers name its variables, and stand behind its looks'
  names : Rattle.gl_model.specs.Form.NumbersName tx (variables_of tx)
  names = (k.formed d.thread).well_formed d.index (Abort tx (Raised var)) here

  abbrev its_until : (n : ℕ) × ((x m : ℕ) → Contains tx.numbers (record { var = x; nth = m }) → until x m ≡ n)
      × (is_in var (variables_of tx) ≡ true)
  its_until = agreed d.thread d.index tx var here

  abbrev N : ℕ
  N = its_until.0

  -- on each of its variables the attempt has a number of its own
  number_of : (x : ℕ) → Contains (variables_of tx) x → (m : ℕ) × Contains tx.numbers (record { var = x; nth = m })
  number_of x c =
      let a = contains_map (λ (n : Rattle.gl_model.specs.declared.tx.Number.Number). n.var) tx.numbers x
      (subst (λ l. Contains l x) (sym names.variables) c) in
      (a.0.nth, subst (λ y. Contains tx.numbers (record { var = y; nth = a.0.nth })) a.2 a.1)

  -- a number of the attempt's own is on one of its variables
  var_of : (x m : ℕ) → Contains tx.numbers (record { var = x; nth = m }) → Contains (variables_of tx) x
  var_of x m c = subst (λ l. Contains l x) names.variables (map_contains (λ n. n.var) tx.numbers (record { var = x; nth = m }) c)

  module _ (x m : ℕ) (has : Contains tx.numbers (record { var = x; nth = m })) where
    -- the attempt's number m on x was drawn by its thread, in a draw that is for the attempt
    its : (b : Draw) × DrawAt (draws x) m b × (b.thread ≡ d.thread) × IsKept (R d.thread) [] x m b
        × IsFor b.what (Abort tx (Raised var)) x m
    its = (k.tied.at d.thread).made x m d.index (Abort tx (Raised var)) here (inr has)

    -- that draw was made by the attempt's entry
    is : its.0.what ≡ Entered (Abort tx (Raised var))
    is = own_for its.0.what (Abort tx (Raised var)) x m has its.4

    -- the attempt's entry stands in the block of its draw
    block_there : IsBlockOf R d its.0.block
    block_there = block_of_place R d.thread d.index its.0.block
        (block_of_entry R draws k.tied d (Abort tx (Raised var)) x m its.0 here (inr has) its.1 its.2 is)

    -- what is said of refusals holds of that draw, over the draws with lower numbers
    numbered : Numbered (RefusalHolds h (until x) x) (draws x) m its.0
    numbered = each_numbered (RefusalHolds h (until x) x) (draws x) m its.0 (refused x) its.1

    -- as many draws have lower numbers as the attempt's number says
    long : length numbered.earlier ≡ m
    long = numbered.long

    -- the attempt was refused rightly, judged over the first N events
    right : IsRefusedRightly h x numbered.earlier d.thread its.0.block tx var N
    right =
        let r : RefusalRight h (until x) x numbered.earlier its.0.thread its.0.block (Entered (Abort tx (Raised var))) =
        subst (λ w. RefusalRight h (until x) x numbered.earlier its.0.thread its.0.block w) is numbered.holds in
        subst (λ n. IsRefusedRightly h x numbered.earlier d.thread its.0.block tx var n) (ap (until x) long ∙ its_until.1 x m has)
        (subst (λ t. IsRefusedRightly h x numbered.earlier t its.0.block tx var (until x (length numbered.earlier))) its.2 r)

  -- a commit of the record: it stands before the attempt on a common variable just where it is below N
  module _ (b : Place) (q : ℕ) (by : Tx) (there : EntryAt R b (Commit q by)) (y : ℕ) where
    -- the commit is the event at q
    ev : IsEventAt R b q (record { thread = b.thread; event = Commits (variables_of by) })
    ev = record { entry = Commit q by; there = there; position = refl; event = refl; own = refl }

    -- each of the commit's numbers on y was drawn by its entry, in the block at q
    own_of : (m : ℕ) → Contains by.numbers (record { var = y; nth = m }) → (o : Origin R h draws k b (Commit q by) y m)
        × (o.its.what ≡ Entered (Commit q by)) × (o.its.block ≡ q)
    own_of m has =
        let o : Origin R h draws k b (Commit q by) y m = origin R h draws k b (Commit q by) y m there tt has in (
          o,
          elim o.itself [ inl i ↦ o.made ∙ ap Entered i.1 | inr i ↦ absurd i.1 ],
          sym
              (own_block R (rise R h draws k) b q o.its.block (record { thread = b.thread; event = Commits (variables_of by) }) ev
              o.stood.block),
        )

    -- what was drawn for the commit's entry is a commit's
    commit_what : (w : What) → w ≡ Entered (Commit q by) → IsCommitWhat w
    commit_what w e = subst IsCommitWhat (sym e) (let z : IsCommitWhat (Entered (Commit q by)) = tt in z)

    -- the commit's own numbers name its variables, and stand behind its looks'
    names_by : Rattle.gl_model.specs.Form.NumbersName by (variables_of by)
    names_by = (k.formed b.thread).well_formed b.index (Commit q by) there

    -- on each of its variables the commit has a number of its own
    number_by : Contains (variables_of by) y → (m : ℕ) × Contains by.numbers (record { var = y; nth = m })
    number_by c =
        let a = contains_map (λ (n : Rattle.gl_model.specs.declared.tx.Number.Number). n.var) by.numbers y
        (subst (λ l. Contains l y) (sym names_by.variables) c) in
        (a.0.nth, subst (λ z. Contains by.numbers (record { var = z; nth = a.0.nth })) a.2 a.1)

    -- a commit below N that has a variable in common with the attempt has an edge to it
    edge : Contains (variables_of by) y → Contains (variables_of tx) y → q < N → RefusedCommitEdge R b d
    edge c e low =
        let n = number_by c in
        let m = number_of y e in
        let o = own_of n.0 n.1 in
        record {
          made = Commit q by;
          refused = Abort tx (Raised var);
          there = there;
          here = here;
          is_commit = tt;
          is_refused = tt;
          var = y;
          before = record {
            first = Commit q by;
            second = Abort tx (Raised var);
            there = there;
            here = here;
            number = n.0;
            later = m.0;
            numbered = n.1;
            also_numbered = m.1;
            order = inl (elim (cases_lt n.0 m.0) [
              | inl lt ↦ lt
              | inr ge ↦ absurd (elim (eq-or-lt_of_le ge) [
                | inl same ↦ (let z : (its y m.0 m.1).0 ≡ o.0.its =
                    one_draw (draws y) m.0 (its y m.0 m.1).0 o.0.its (its y m.0 m.1).1
                    (subst (λ j. DrawAt (draws y) j o.0.its) (sym same) o.0.at) in let a : Entered (Abort tx (Raised var))
                    ≡ Entered (Commit q by) = sym (is y m.0 m.1) ∙ ap (λ (w : Draw). w.what) z ∙ o.1 in cc)
                | inr lt ↦
                    (let z : Numbered (RefusalHolds h (until y) y) (draws y) n.0 o.0.its =
                    each_numbered (RefusalHolds h (until y) y) (draws y) n.0 o.0.its (refused y) o.0.at in
                    let r : RefusalRight h (until y) y z.earlier o.0.its.thread o.0.its.block (Entered (Commit q by)) =
                    subst (λ w. RefusalRight h (until y) y z.earlier o.0.its.thread o.0.its.block w) o.1 z.holds in
                    let u = r m.0 (its y m.0 m.1).0 (z.below_at m.0 (its y m.0 m.1).0 (its y m.0 m.1).1 lt)
                    (subst IsRefusal (sym (is y m.0 m.1)) (let g : IsRefusal (Entered (Abort tx (Raised var))) = tt in g)) in
                    let same = its_until.1 y m.0 m.1 in let blk = o.2 in let low' : q < its_until.0 = low in omega arith)
              ])
            ]);
          };
        }

    -- a commit of another thread that is before the attempt in the order of y is below N, and y is a variable of both
    edge_back : (v : InVariableOrder R y b d) → b.thread ≢ d.thread → (q < N) × Contains (variables_of by) y × Contains (variables_of tx) y
    edge_back v apart =
        let m : Contains tx.numbers (record { var = y; nth = v.later }) =
        subst (λ g. NumberOn g y v.later) (same_entry R d v.second (Abort tx (Raised var)) v.here here) v.also_numbered in
        let n : Contains by.numbers (record { var = y; nth = v.number }) =
        subst (λ g. NumberOn g y v.number) (same_entry R b v.first (Commit q by) v.there there) v.numbered in
        let o = own_of v.number n in
        let lt : v.number < v.later = elim v.order [ inl lt ↦ lt | inr e ↦ absurd (apart e.1.0) ] in
        let low = (right y v.later m).behind o.0.its ((numbered y v.later m).below v.number o.0.its o.0.at lt)
        (commit_what o.0.its.what o.1) in
        let same = o.2 in (
          (let l : o.0.its.block < its_until.0 = low in let g : q < its_until.0 = omega arith in g),
          subst (λ l. Contains l y)
              names_by.variables (map_contains (λ n. n.var) by.numbers (record { var = y; nth = v.number }) n),
          var_of y v.later m,
        )

  -- an access of another thread happens before the attempt just where it happens before a next commit on its variables, over the first N
  -- events
  module _ (c : Place) (a : Draw) (own : a.thread ≡ c.thread) (stood : StandsFor R c (access_of a)) (apart : a.thread ≢ d.thread) (x m : ℕ)
      (has : Contains tx.numbers (record { var = x; nth = m })) where
    abbrev p : ℕ
    p = (its x m has).0.block

    -- N is no more than the count of all events
    le : N ≤ length h
    le = (right x m has).within

    -- what the access reaches by steps
    chain_event : (b : Place) (q : ℕ) (s : Stamp) → IsEventAt R b q s → TransitiveClosure (OrdersDirectly R) c b → Reaches h (access_of a) q
    chain_event b q s e ch = elim (chain_reaches R h (listed R h draws k) (rise R h draws k) c (access_of a) stood ch) [
      | inl lt ↦ own_later s ((listed R h draws k).listed b q s e)
          (above R h (listed R h draws k) (rise R h draws k) c (access_of a) stood b q s e lt) (event_thread e ∙ sym lt.0 ∙ sym own)
      | inr u ↦ elim (eq-or-lt_of_le u.before) [
        | inl same ↦ (let z : u.position ≡ q = one_position u.made (moved (same_place b u.place (sym u.own) (sym same)) e)
            in subst (λ n. Reaches h (access_of a) n) z u.reached)
        | inr lt ↦ thread_on u.event s u.reached ((listed R h draws k).listed u.place u.position u.event u.made)
            ((listed R h draws k).listed b q s e) (rise R h draws k u.place b u.position q u.event s u.made e (u.own, lt)) (event_thread e
            ∙ sym u.own ∙ sym (event_thread u.made))
      ]
    ]

    -- where the access is a commit's, a commit on its variables stands at its place, with its block as the position
    commit_of : (ys : List ℕ) → (access_of a).variables ≡ Some ys → (by : Tx) × EntryAt R c (Commit a.block by) × (variables_of by ≡ ys)
    commit_of ys v = elim stood.kind [
      | inl g ↦ absurd (let z : Some ys ≡ None = sym v ∙ g.3 in cc)
      | inr g ↦
          (let same : g.0 ≡ ys = some_list g.0 ys (sym g.1 ∙ v) in
          let e = g.2.1 in
          let r = commit_event e.entry a.block g.0 e.position (e.event ∙ ap Some g.2.2) in
          (r.0, subst (λ n. EntryAt R c n) r.1 e.there, r.2 ∙ same))
    ]
      where
        some_list : (a b : List ℕ) → Some a ≡ Some b → a ≡ b
        some_list a b z = cc

    -- where the access happens before the attempt in the record, it happens before a next commit on the attempt's variables, over the first
    -- N events
    to_next : HappensBefore R c d → HappensBeforeNext (take N h) (access_of a) d.thread (Some (variables_of tx))
    to_next (by_steps ch) =
        let r : Precedes h (access_of a) d.thread p = chain_precedes R h draws k c a own stood d p (block_there x m has) apart ch in
        let low : r.position < N = (let z : p < its_until.0 = (right x m has).block in let w = r.within
        in let g : r.position < its_until.0 = omega arith in g) in
        inr (inl (
          r.position,
          (
            r.event,
            event_front h N r.position r.event le low r.here,
            r.own,
            reaches_front h N r.position (access_of a)
                le low r.reached,
          ),
        ))
    to_next (from_commit i) =
        let z = is_commit i.made i.is_commit in
        let there : EntryAt R c (Commit z.0 z.1) = subst (λ g. EntryAt R c g) z.2 i.there in
        let e = edge_back c z.0 z.1 there i.var i.before (λ q. apart (own ∙ q)) in
        let v : (access_of a).variables ≡ Some (variables_of z.1) = elim stood.kind [
          | inl g ↦ absurd (let q : g.0 ≡ Commit z.0 z.1 = same_entry R c g.0 (Commit z.0 z.1) g.1 there
              in let w : IsPlain (Commit z.0 z.1) = subst IsPlain q g.2 in w)
          | inr g ↦
              (let ev = g.2.1 in
              let q : ev.entry ≡ Commit z.0 z.1 = same_entry R c ev.entry (Commit z.0 z.1) ev.there there in
              let w : Some (Commits (variables_of z.1)) ≡ Some (Commits g.0) = sym (ap event_of q) ∙ ev.event ∙ ap Some g.2.2 in
              let same : variables_of z.1 ≡ g.0 = same_list (variables_of z.1) g.0 w in
              g.1 ∙ ap Some (sym same))
        ] in
        inr (inr (inl (record { variables = variables_of z.1; are = v; var = i.var; one = e.1; other = e.2 })))
      where
        same_list : (a b : List ℕ) → Some (Commits a) ≡ Some (Commits b) → a ≡ b
        same_list a b z = cc
    to_next (through_commit b ch i) =
        let z = is_commit i.made i.is_commit in
        let there : EntryAt R b (Commit z.0 z.1) = subst (λ g. EntryAt R b g) z.2 i.there in
        let e' : IsEventAt R b z.0 (record { thread = b.thread; event = Commits (variables_of z.1) }) = ev b z.0 z.1 there i.var in
        let r : Reaches h (access_of a) z.0 = chain_event b z.0 (record { thread = b.thread; event = Commits (variables_of z.1) }) e' ch in
        elim (native.Mathlib.Decide.ℕ_discrete b.thread d.thread) [
          | yes same ↦
              (let lt : b.index < d.index = own_before b z.0 z.1 there i.var i.before same in
              let w : Precedes h (access_of a) d.thread p =
              chain_precedes R h draws k c a own stood d p (block_there x m has) apart
              (then_step ch (Rattle.gl_model.specs.HappensBefore.program_order (same, lt))) in
              let low : w.position < N = (let q : p < its_until.0 = (right x m has).block in let y = w.within
              in let g : w.position < its_until.0 = omega arith in g) in
              inr (inl (
                w.position,
                (
                  w.event,
                  event_front h N w.position w.event le low w.here,
                  w.own,
                  reaches_front h N w.position
                      (access_of a) le low w.reached,
                ),
              )))
          | no other ↦
              (let e = edge_back b z.0 z.1 there i.var i.before other in
              inr (inr (inr (
                z.0,
                (
                  record { thread = b.thread; event = Commits (variables_of z.1) },
                  (
                    variables_of z.1,
                    (
                      i.var,
                      event_front h N z.0 (record { thread = b.thread; event = Commits (variables_of z.1) }) le e.0
                          ((listed R h draws k).listed b z.0 (record { thread = b.thread; event = Commits (variables_of z.1) }) e'),
                      refl,
                      e.1,
                      e.2,
                      reaches_front h N z.0 (access_of a) le e.0 r,
                    ),
                  ),
                ),
              ))))
        ]
      where
        -- a commit of the attempt's own thread that is before it on a variable stands before it in their list
        own_before : (b : Place) (q : ℕ) (by : Tx) → EntryAt R b (Commit q by) → (y : ℕ) → InVariableOrder R y b d → b.thread ≡ d.thread
            → b.index < d.index
        own_before b q by there y v same = elim v.order [
          | inl lt ↦
              (let m' : Contains tx.numbers (record { var = y; nth = v.later }) =
              subst (λ g. NumberOn g y v.later) (same_entry R d v.second (Abort tx (Raised var)) v.here here) v.also_numbered in
              let n' : Contains by.numbers (record { var = y; nth = v.number }) =
              subst (λ g. NumberOn g y v.number) (same_entry R b v.first (Commit q by) v.there there) v.numbered in
              let at : EntryAt R (record { thread = d.thread; index = b.index }) (Commit q by) =
              subst (λ t. EntryAt R (record { thread = t; index = b.index }) (Commit q by)) same there in
              elim (cases_lt b.index d.index) [
                | inl less ↦ less
                | inr ge ↦ absurd (elim (eq-or-lt_of_le ge) [
                  | inl level ↦ (let z : Abort tx (Raised var)
                      ≡ Commit q by = same_entry R d (Abort tx (Raised var)) (Commit q by) here
                      (subst (λ i. EntryAt R (record { thread = d.thread; index = i }) (Commit q by)) (sym level) at) in cc)
                  | inr more ↦ (let z : v.later < v.number =
                      (k.formed d.thread).numbers_rise d.index b.index y v.later v.number (Abort tx (Raised var)) (Commit q by) here at more
                      (inr m') (inr n') in omega arith)
                ])
              ])
          | inr e ↦ e.1.1
        ]

    -- where it happens before such a next commit, and is below N if it is a commit's, it happens before the attempt in the record
    from_next : HappensBeforeNext (take N h) (access_of a) d.thread (Some (variables_of tx)) → (IsCommitWhat a.what → a.block < N)
        → HappensBefore R c d
    from_next (inl mine) low = absurd (apart mine)
    from_next (inr (inl r)) low =
        let w = event_whole h N r.0 r.1.0 le r.1.1 in
        to_block R h (listed R h draws k) (rise R h draws k) c a stood d p (block_there x m has)
        (record {
          position = r.0;
          event = r.1.0;
          here = w.1;
          own = r.1.2;
          within = (right x m has).upto r.0 r.1.0 w.1 r.1.2 w.0;
          reached = reaches_whole h N r.0 (access_of a) r.1.3;
        })
    from_next (inr (inr (inl on))) low =
        let z = commit_of on.variables on.are in
        from_commit (edge c a.block z.0 z.1 on.var (subst (λ l. Contains l on.var) (sym z.2) on.one) on.other
        (low (commit_a a.what on.variables on.are)))
      where
        commit_a : (w : What) (ys : List ℕ) → Rattle.gl_draws.specs.Draws.variables_in w ≡ Some ys → IsCommitWhat w
        commit_a (Entered (Commit at' by')) ys v = tt
        commit_a (Entered (Sync a b c)) ys v = absurd (cc)
        commit_a (Entered (Plain a b c d e f)) ys v = absurd (cc)
        commit_a (Entered (Abort a b)) ys v = absurd (cc)
        commit_a (Entered (Trim a)) ys v = absurd (cc)
        commit_a (Entered (Over a)) ys v = absurd (cc)
        commit_a (Rattle.gl_draws.specs.Draws.Looked v') ys v = absurd (cc)
        commit_a Rattle.gl_draws.specs.Draws.Open ys v = absurd (cc)
    from_next (inr (inr (inr r))) low =
        let s = r.1.0 in
        let ys = r.1.1.0 in
        let y = r.1.1.1.0 in
        let w = event_whole h N r.0 s le r.1.1.1.1 in
        let made = (listed R h draws k).made r.0 s w.1 in
        let e = made.1 in
        let z = commit_event e.entry r.0 ys e.position (e.event ∙ ap Some r.1.1.1.2) in
        let there : EntryAt R made.0 (Commit r.0 z.0) = subst (λ g. EntryAt R made.0 g) z.1 e.there in
        through_commit made.0 (reaches_chain R h (listed R h draws k) (rise R h draws k) c (access_of a) stood
        (reaches_whole h N r.0 (access_of a) r.1.1.1.5) made.0 s e)
        (edge made.0 r.0 z.0 there y (subst (λ l. Contains l y) (sym z.2) r.1.1.1.3) r.1.1.1.4 w.0)

  -- racy on the variable that it names, and on none below
  pub refused_rightly : IsRacy R d var × ((x : ℕ) → x < var → IsRacy R d x → ⊥)
  refused_rightly = (racy, lower)
    where
      racy : IsRacy R d var
      racy =
          let n = number_of var (is_in-contains var (variables_of tx) its_until.2) in
          let r = (right var n.0 n.1).named refl in
          let j = (numbered var n.0 n.1).above r.earlier r.among in
          let q = place_of_draw R draws k.tied var j.0 r.earlier r.entry j.2 r.made in
          let c : Place = record { thread = r.earlier.thread; index = q.index } in
          let z : Numbered (DrawHolds h var) (draws var) j.0 r.earlier =
          each_numbered (DrawHolds h var) (draws var) j.0 r.earlier (k.hold var) j.2 in
          let stood : StandsFor R c (access_of r.earlier) =
          stands R h (listed R h draws k) (rise R h draws k) r.earlier r.entry r.made r.performed z.holds.placed c refl q.there
          (block_of_place R r.earlier.thread q.index r.earlier.block q.block) in
          record {
            other = c;
            another = r.apart;
            before = record {
              first = r.entry;
              second = Abort tx (Raised var);
              there = q.there;
              here = here;
              number = j.0;
              later = n.0;
              numbered = q.number;
              also_numbered = n.1;
              order = inl j.1;
            };
            performed = r.performed;
            conflict = r.conflict;
            unordered = λ hb. r.unordered (to_next c r.earlier refl stood r.apart var n.0 n.1 hb);
          }

      lower : (x : ℕ) → x < var → IsRacy R d x → ⊥
      lower x lt r =
          let same = same_entry R d r.before.second (Abort tx (Raised var)) r.before.here here in
          let m : Contains tx.numbers (record { var = x; nth = r.before.later }) =
          subst (λ g. NumberOn g x r.before.later) same r.before.also_numbered in
          let less : r.before.number < r.before.later = elim r.before.order [ inl l ↦ l | inr o ↦ absurd (r.another o.1.0) ] in
          let o : Origin R h draws k r.other r.before.first x r.before.number =
          origin R h draws k r.other r.before.first x r.before.number r.before.there r.performed r.before.numbered in
          let conflict : Conflict r.before.first (Abort tx (Raised var)) x = subst (λ g. Conflict r.before.first g x) same r.conflict in
          let among : Among (numbered x r.before.later m).earlier o.its =
          (numbered x r.before.later m).below r.before.number o.its o.at less in
          (right x r.before.later m).least lt (record {
            earlier = o.its;
            entry = o.entry;
            among = among;
            made = o.made;
            performed = o.performed;
            apart = λ e. r.another (sym o.own ∙ e);
            conflict = (
              elim conflict.0 [ inl w ↦ inl (o.writes w) | inr w ↦ inr w ],
              elim conflict.1 [
                | inl w ↦ inl (o.plain w)
                | inr w ↦ inr w
              ],
            );
            unordered = λ nx. r.unordered (from_next r.other o.its o.own o.stood (λ e. r.another (sym o.own ∙ e)) x r.before.later m nx
                (λ i. (right x r.before.later m).behind o.its among i));
          })
