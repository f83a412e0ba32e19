-- The numbers of a variable when repeats of its last write are added to the draws.
use Rattle.std.proofs.Common.{◌≡◌, ◌≢◌, ℕ, suc, ◌<◌, List, [], ◌∷◌, length, take, refl, ap, subst, sym, ◌∙◌, arith, inl, inr, Some, true, false, Bool}
use Rattle.std.specs.Prelude.{ℤ, Option, ◌⊎◌}
use native.Mathlib.Decide.{ℕ_discrete}
use Rattle.gl_model.specs.declared.event.Stamp.{Stamp}
use Rattle.gl_model.specs.declared.tx.Why.TheVariants.{Raised}
use Rattle.gl_model.specs.Entries.{Entry, Commit, Plain, Abort}
use Rattle.gl_model.specs.Machine.{with_at}
use Rattle.gl_model.specs.Next.{HappensBeforeNext}
use Rattle.gl_model.specs.Records.{IsPerformed, variables_of}
use Rattle.gl_draws.specs.Draws.{What, Entered, Looked, Open, Draw, DrawAt, Among, is_write, last_write}
use Rattle.gl_draws.specs.NextRaces.{IsRacyNext}
use Rattle.gl_draws.specs.Repeated.{with_repeats, repeated, IsCalm}
use Rattle.gl_draws.specs.Ties.{Drawn, AreDrawn, IsKept, IsFor, IsInBlock, in_list, in_flight, count_by}
use Rattle.gl_draws.specs.Verdicts.{IsCommitWhat}
use Rattle.gl_draws.proofs.DrawCounts.{count_own, count_other}
use Rattle.gl_draws.proofs.DrawPlaces.{draw_below}
use Rattle.gl_draws.proofs.DrawTies.{with_here, with_else}
use Rattle.gl_draws.proofs.Repeating.{IsSame, at_write, past, repeated_long, among_back, among_on, same_access}
use Rattle.gl_draws.specs.Refusals.{IsRefusedRightly, RefusalRight, RefusalsHold}

module _ (x : ℕ) (vs : List ℤ) where
  -- the draw at k after that: the same, or the last write with its repeats
  pub record IsAfter (ds : List Draw) (k : ℕ) (a b : Draw) : Type 0 where
    pub same : IsSame x vs a b
    pub at : DrawAt ds k b
    pub how : ((a ≡ b) × ((n : ℕ) (d : Draw) → last_write x ds ≡ Some d → DrawAt ds n d → ((i : ℕ) → DrawAt ds i d → i ≡ n) → k ≢ n))
        ⊎ ((a ≡ with_repeats vs b) × (last_write x ds ≡ Some b))

  -- equal draws are the same but for their repeats
  same_all : (a b : Draw) → a ≡ b → IsSame x vs a b
  same_all a b e = record {
    thread = ap (λ (z : Draw). z.thread) e;
    block = ap (λ (z : Draw). z.block) e;
    what = ap (λ (z : Draw). z.what) e;
  }

  -- a draw that writes x is the last write when it comes
  write_now : (d : Draw) (ds : List Draw) → is_write x d.what ≡ true → last_write x (d ∷ ds) ≡ Some d
  write_now d ds e = rw e refl

  -- behind a draw that does not write x the last write is the one before
  write_before : (d : Draw) (ds : List Draw) → is_write x d.what ≡ false → last_write x (d ∷ ds) ≡ last_write x ds
  write_before d ds e = rw e refl

  -- of two equal options the draws are equal
  some_is : (a b : Draw) → Some a ≡ Some b → a ≡ b
  some_is a b z = cc

  -- the last write has a number
  pub last_number : (ds : List Draw) (d : Draw) → last_write x ds ≡ Some d → (n : ℕ) × DrawAt ds n d
  last_number [] d e = absurd (cc)
  last_number (c ∷ ds) d e = here (is_write x c.what) refl (λ q. last_number ds d q)
    where
      here : (b : Bool) → is_write x c.what ≡ b → (last_write x ds ≡ Some d → (n : ℕ) × DrawAt ds n d) → (n : ℕ) × DrawAt (c ∷ ds) n d
      here true w rec = (length ds, inl (refl, some_is d c (sym e ∙ write_now c ds w)))
      here false w rec = let r = rec (sym (write_before c ds w) ∙ e) in (r.0, inr r.1)

  -- a draw that has the number k afterwards is the one that had it before, with the repeats if it is the last write
  pub draw_back : (ds : List Draw) (k : ℕ) (a : Draw) → DrawAt (repeated x vs ds) k a → (b : Draw) × IsAfter ds k a b
  draw_back [] k a at = absurd at
  draw_back (d ∷ ds) k a at = here (is_write x d.what) refl (λ q. draw_back ds k a q)
    where
      here : (w : Bool) → is_write x d.what ≡ w → (DrawAt (repeated x vs ds) k a → (b : Draw) × IsAfter ds k a b) → (b : Draw)
          × IsAfter (d ∷ ds) k a b
      here true w rec = elim (subst (λ l. DrawAt l k a) (at_write x vs d ds w) at) [
        | inl new ↦ (
          d,
          record {
            same = record {
              thread = ap (λ (z : Draw). z.thread) new.1;
              block = ap (λ (z : Draw). z.block) new.1;
              what = ap (λ (z : Draw). z.what) new.1;
            };
            at = inl (new.0, refl);
            how = inr (new.1, write_now d ds w);
          },
        )
        | inr old ↦ (
          a,
          record {
            same = same_all a a refl;
            at = inr old;
            how = inl (
              refl,
              λ n c last there once z.
                  let is : d ≡ c = some_is d c (sym (write_now d ds w) ∙ last) in
                  let top : length ds ≡ n = once (length ds) (inl (refl, sym is)) in
                  let low = draw_below ds k a old in absurd (omega arith),
            );
          },
        )
      ]
      here false w rec = elim (subst (λ l. DrawAt l k a) (past x vs d ds w) at) [
        | inl new ↦ (
          d,
          record {
            same = same_all a d new.1;
            at = inl (new.0 ∙ repeated_long x vs ds, refl);
            how = inl (
              new.1,
              λ n c last there once z.
                  let r = last_number ds c (sym (write_before d ds w) ∙ last) in
                  let is : r.0 ≡ n = once r.0 (inr r.1) in
                  let low = draw_below ds r.0 c r.1 in
                  let long = repeated_long x vs ds in let q = new.0 in absurd (omega arith),
            );
          },
        )
        | inr old ↦ (let r = rec old in (
          r.0,
          record {
            same = r.1.same;
            at = inr r.1.at;
            how = elim r.1.how [
              | inl h ↦ inl (
                h.0,
                λ n c last there once z.
                    let r' = last_number ds c (sym (write_before d ds w) ∙ last) in
                    let is : r'.0 ≡ n = once r'.0 (inr r'.1) in
                    h.1 n c (sym (write_before d ds w) ∙ last) (subst (λ i. DrawAt ds i c) is r'.1) (λ i q. once i (inr q)) z,
              )
              | inr h ↦ inr (h.0, write_before d ds w ∙ h.1)
            ];
          },
        ))
      ]

  -- and one that had it before has it afterwards, but for its repeats
  pub draw_on : (ds : List Draw) (k : ℕ) (b : Draw) → DrawAt ds k b → (a : Draw) × DrawAt (repeated x vs ds) k a × IsSame x vs a b
  draw_on [] k b at = absurd at
  draw_on (d ∷ ds) k b at = here (is_write x d.what) refl (λ q. draw_on ds k b q)
    where
      here : (w : Bool) → is_write x d.what ≡ w → (DrawAt ds k b → (a : Draw) × DrawAt (repeated x vs ds) k a × IsSame x vs a b)
          → (a : Draw) × DrawAt (repeated x vs (d ∷ ds)) k a × IsSame x vs a b
      here true w rec = elim at [
        | inl new ↦ (
          with_repeats vs d,
          subst (λ l. DrawAt l k (with_repeats vs d)) (sym (at_write x vs d ds w)) (inl (new.0, refl)),
          record {
            thread = sym (ap (λ (z : Draw). z.thread) new.1);
            block = sym (ap (λ (z : Draw). z.block) new.1);
            what = sym (ap (λ (z : Draw). z.what) new.1);
          },
        )
        | inr old ↦ (b, subst (λ l. DrawAt l k b) (sym (at_write x vs d ds w)) (inr old), same_all b b refl)
      ]
      here false w rec = elim at [
        | inl new ↦ (
          b,
          subst (λ l. DrawAt l k b) (sym (past x vs d ds w)) (inl (new.0 ∙ sym (repeated_long x vs ds), new.1)),
          same_all b b
              refl,
        )
        | inr old ↦ (let r = rec old in (r.0, subst (λ l. DrawAt l k r.0) (sym (past x vs d ds w)) (inr r.1), r.2))
      ]

  -- each thread has as many draws as before
  pub repeated_count : (t : ℕ) (ds : List Draw) → count_by t (repeated x vs ds) ≡ count_by t ds
  repeated_count t [] = refl
  repeated_count t (d ∷ ds) = here (is_write x d.what) refl (repeated_count t ds)
    where
      cons : (a b : Draw) (cs bs : List Draw) → a.thread ≡ b.thread → count_by t cs ≡ count_by t bs → count_by t (a ∷ cs)
          ≡ count_by t (b ∷ bs)
      cons a b cs bs e q = elim (ℕ_discrete a.thread t) [
        | yes is ↦ count_own t a cs is ∙ ap suc q ∙ sym (count_own t b bs (sym e ∙ is))
        | no ne ↦ count_other t a cs ne ∙ q ∙ sym (count_other t b bs (λ z. ne (e ∙ z)))
      ]

      here : (w : Bool) → is_write x d.what ≡ w → count_by t (repeated x vs ds) ≡ count_by t ds → count_by t (repeated x vs (d ∷ ds))
          ≡ count_by t (d ∷ ds)
      here true w rec = ap (count_by t) (at_write x vs d ds w) ∙ cons (with_repeats vs d) d ds ds refl refl
      here false w rec = ap (count_by t) (past x vs d ds w) ∙ cons d d (repeated x vs ds) ds refl rec

  -- a next access that is racy is so with the repeats added to the draws
  next_on : (h : List Stamp) (ds : List Draw) (t : ℕ) (o : Option (List ℕ)) (f : Entry) → IsRacyNext h x ds t o f
      → IsRacyNext h x (repeated x vs ds) t o f
  next_on h ds t o f r = let m = among_on x vs ds r.earlier r.among in let s = m.2 in record {
    earlier = m.0;
    entry = r.entry;
    among = m.1;
    made = sym s.what ∙ r.made;
    performed = r.performed;
    apart = λ e. r.apart (s.thread ∙ e);
    conflict = r.conflict;
    unordered = λ q. r.unordered (subst (λ a. HappensBeforeNext h a t o) (sym (same_access x vs r.earlier m.0 s)) q);
  }

  -- a next access that is racy with the repeats added to the draws is so without them
  next_off : (h : List Stamp) (ds : List Draw) (t : ℕ) (o : Option (List ℕ)) (f : Entry) → IsRacyNext h x (repeated x vs ds) t o f
      → IsRacyNext h x ds t o f
  next_off h ds t o f r = let m = among_back x vs ds r.earlier r.among in let s = m.2 in record {
    earlier = m.0;
    entry = r.entry;
    among = m.1;
    made = sym s.what ∙ r.made;
    performed = r.performed;
    apart = λ e. r.apart (s.thread ∙ e);
    conflict = r.conflict;
    unordered = λ q. r.unordered (subst (λ a. HappensBeforeNext h a t o) (sym (same_access x vs r.earlier m.0 s)) q);
  }

  -- what is said of refusals at a draw of no performed entry holds with the repeats added to the draws before it
  refused_right : (h : List Stamp) (until : ℕ → ℕ) (ds : List Draw) (t p : ℕ) (w : What)
      → ((e : Entry) → w ≡ Entered e → IsPerformed e → ⊥) → RefusalRight h until x ds t p w
      → RefusalRight h until x (repeated x vs ds) t p w
  refused_right h until ds t p (Entered (Abort tx (Raised var))) none r =
      subst (λ n. IsRefusedRightly h x (repeated x vs ds) t p tx var (until n)) (sym (repeated_long x vs ds)) (record {
        within = r.within;
        block = r.block;
        upto = r.upto;
        named = λ e. next_on (take (until (length ds)) h) ds t (Some (variables_of tx)) (Abort tx (Raised var)) (r.named e);
        least = λ lt q. r.least lt (next_off (take (until (length ds)) h) ds t (Some (variables_of tx)) (Abort tx (Raised var)) q);
        behind = λ a among is. let m = among_back x vs ds a among
            in subst (λ z. z < until (length ds)) (sym m.2.block) (r.behind m.0 m.1 (subst IsCommitWhat m.2.what is));
      })
  refused_right h until ds t p (Entered (Commit at tx)) none r = absurd (none (Commit at tx) refl tt)
  refused_right h until ds t p (Entered (Rattle.gl_model.specs.Entries.Sync a b c)) none r = tt
  refused_right h until ds t p (Entered (Plain a b c d e f)) none r = tt
  refused_right h until ds t p (Entered (Abort tx (Rattle.gl_model.specs.declared.tx.Why.TheVariants.Changed a b c))) none r = tt
  refused_right h until ds t p (Entered (Rattle.gl_model.specs.Entries.Trim a)) none r = tt
  refused_right h until ds t p (Entered (Rattle.gl_model.specs.Entries.Over a)) none r = tt
  refused_right h until ds t p (Looked v) none r = tt
  refused_right h until ds t p Open none r = tt

  -- where no access was performed behind the last write, what was said of refused attempts holds over the draws afterwards
  pub refusals_repeated : (h : List Stamp) (until : ℕ → ℕ) (ds : List Draw) → IsCalm x ds → RefusalsHold h until x ds
      → RefusalsHold h until x (repeated x vs ds)
  refusals_repeated h until [] calm all = absurd calm
  refusals_repeated h until (d ∷ ds) (inl w) all = subst (λ l. RefusalsHold h until x l) (sym (at_write x vs d ds w)) (all.0, all.1)
  refusals_repeated h until (d ∷ ds) (inr c) all =
      subst (λ l. RefusalsHold h until x l) (sym (past x vs d ds c.0))
      (refused_right h until ds d.thread d.block d.what c.1 all.0, refusals_repeated h until ds c.2 all.1)

  -- where a draw is kept in the list or in flight, so is one that is the same but for its repeats
  kept_same : (es : List Entry) (drawn : List Drawn) (y k : ℕ) (a b : Draw) → IsSame x vs a b → IsKept es drawn y k b
      → IsKept es drawn y k a
  kept_same es drawn y k a b s (in_list i e at dr is blk) =
      in_list i e at dr (subst (λ w. IsFor w e y k) (sym s.what) is)
      (subst (λ p. IsInBlock a.what es i p) (sym s.block) (subst (λ w. IsInBlock w es i b.block) (sym s.what) blk))
  kept_same es drawn y k a b s (in_flight look c is) =
      in_flight look c (subst (λ w. Rattle.gl_draws.specs.Ties.IsStill w look) (sym s.what) is)

  module _ (draws : ℕ → List Draw) where
    abbrev pub again : ℕ → List Draw
    again = with_at draws x (repeated x vs (draws x))

    -- the draws of x get the repeats
    pub again_here : again x ≡ repeated x vs (draws x)
    again_here = with_here draws x (repeated x vs (draws x))

    -- those of any other variable stay
    pub again_else : (y : ℕ) → y ≢ x → again y ≡ draws y
    again_else y ne = with_else draws x y (repeated x vs (draws x)) ne

    -- a draw of any variable that has a number afterwards had it before, but for its repeats
    pub again_back : (y k : ℕ) (a : Draw) → DrawAt (again y) k a → (b : Draw) × DrawAt (draws y) k b × IsSame x vs a b
    again_back y k a at = elim (ℕ_discrete y x) [
      | yes e ↦ (let r = draw_back (draws x) k a (subst (λ l. DrawAt l k a) (ap again e ∙ again_here) at)
          in (r.0, subst (λ z. DrawAt (draws z) k r.0) (sym e) r.1.at, r.1.same))
      | no ne ↦ (a, subst (λ l. DrawAt l k a) (again_else y ne) at, same_all a a refl)
    ]

    -- and one that had it before has it afterwards, but for its repeats
    pub again_on : (y k : ℕ) (b : Draw) → DrawAt (draws y) k b → (a : Draw) × DrawAt (again y) k a × IsSame x vs a b
    again_on y k b at = elim (ℕ_discrete y x) [
      | yes e ↦ (let r = draw_on (draws x) k b (subst (λ z. DrawAt (draws z) k b) e at)
          in (r.0, subst (λ l. DrawAt l k r.0) (sym (ap again e ∙ again_here)) r.1, r.2))
      | no ne ↦ (b, subst (λ l. DrawAt l k b) (sym (again_else y ne)) at, same_all b b refl)
    ]

    -- each thread has as many draws of each variable as before
    pub again_count : (t y : ℕ) → count_by t (again y) ≡ count_by t (draws y)
    again_count t y = elim (ℕ_discrete y x) [
      | yes e ↦ ap (λ z. count_by t (again z)) e ∙ ap (count_by t) again_here ∙ repeated_count t (draws x)
          ∙ ap (λ z. count_by t (draws z)) (sym e)
      | no ne ↦ ap (count_by t) (again_else y ne)
    ]

    -- each variable has as many draws as before
    pub again_long : (y : ℕ) → length (again y) ≡ length (draws y)
    again_long y = elim (ℕ_discrete y x) [
      | yes e ↦ ap (λ z. length (again z)) e ∙ ap length again_here ∙ repeated_long x vs (draws x) ∙ ap (λ z. length (draws z)) (sym e)
      | no ne ↦ ap length (again_else y ne)
    ]

    -- a fact about the draws of x, and about those of any other variable
    pub again_all : (P : ℕ → List Draw → Type 0) → P x (repeated x vs (draws x)) → ((y : ℕ) → P y (draws y)) → (y : ℕ) → P y (again y)
    again_all P new old y = elim (ℕ_discrete y x) [
      | yes e ↦ subst (P y) (sym (ap again e ∙ again_here)) (subst (λ z. P z (repeated x vs (draws x))) (sym e) new)
      | no ne ↦ subst (P y) (sym (again_else y ne)) (old y)
    ]

    -- each draw of any variable afterwards was there before, but for its repeats
    pub again_among : (y : ℕ) (a : Draw) → Among (again y) a → (b : Draw) × Among (draws y) b × IsSame x vs a b
    again_among y a among = elim (ℕ_discrete y x) [
      | yes e ↦ (let r = among_back x vs (draws x) a (subst (λ l. Among l a) (ap again e ∙ again_here) among)
          in (r.0, subst (λ z. Among (draws z) r.0) (sym e) r.1, r.2))
      | no ne ↦ (a, subst (λ l. Among l a) (again_else y ne) among, same_all a a refl)
    ]

    -- the draws of each thread stay tied to its list
    pub again_drawn : (t : ℕ) (es : List Entry) (drawn : List Drawn) → AreDrawn draws t es drawn → AreDrawn again t es drawn
    again_drawn t es drawn f = record {
      kept = λ y k a at own. let r = again_back y k a at in kept_same es drawn y k a r.0 r.2 (f.kept y k r.0 r.1 (sym r.2.thread ∙ own));
      made = λ y k i e at dr. let m = f.made y k i e at dr in let r = again_on y k m.0 m.1
          in (r.0, r.1, r.2.thread ∙ m.2, kept_same es drawn y k r.0 m.0 r.2 m.3, subst (λ w. IsFor w e y k) (sym r.2.what) m.4);
      in_flight = λ o c. let m = f.in_flight o c in let r = again_on o.var o.nth m.0 m.1
          in (r.0, r.1, r.2.thread ∙ m.2, subst (λ w. Rattle.gl_draws.specs.Ties.IsStill w o.look) (sym r.2.what) m.3);
      rise = f.rise;
    }
