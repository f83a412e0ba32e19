-- What is owed, at each kind of step.
use Rattle.std.proofs.Common.{◌≡◌, ◌≢◌, ℕ, zero, suc, ◌==◌, List, [], ◌∷◌, ◌++◌, length, sym, refl, ap, subst, arith, ◌∙◌, inl, inr, Some, true, false, Bool}
use Rattle.std.specs.Prelude.{ℤ, Contains, ◌⊎◌}
use Rattle.std.proofs.lemmas.Bool.{eqb-true}
use Rattle.gl_model.specs.declared.event.Stamp.{Stamp}
use Rattle.gl_model.specs.Entries.{Entry, Sync, Commit, Plain, Abort, Trim, Over}
use Rattle.gl_model.specs.Form.{At, Draws, GivesRight}
use Rattle.gl_draws.specs.Draws.{Entered, Draw, DrawAt, last_write, is_write}
use Rattle.gl_draws.specs.Events.{AreEvents}
use Rattle.gl_draws.specs.Repeated.{IsCalm}
use Rattle.gl_draws.specs.Ties.{Drawn, AreDrawn, last_position}
use Rattle.gl_draws.specs.Verdicts.{DrawsHold}
use Rattle.gl_draws.proofs.DrawPlaces.{draw_below}
use Rattle.gl_draws.proofs.EventTies.{last_own}
use Rattle.gl_draws.proofs.LastOnes.{last_write-among}
use Rattle.gl_draws.proofs.RaceLaw.{entry_of_write}
use Rattle.gl_draws.proofs.RepeatLaw.{none_behind}
use Rattle.gl_rule.specs.View.{Shelf, shelf}
use Rattle.gl_draws.specs.Forming.{IsFormed}
use Rattle.gl_rule.specs.Owed.{repeat_value, repeats_of, OwedOne, IsPending, OwedFits}

-- appending three lists gives the same, whichever two come first
assoc : (us ws zs : List ℤ) → (us ++ ws) ++ zs ≡ us ++ (ws ++ zs)
assoc [] ws zs = refl
assoc (u ∷ us) ws zs = ap (λ l. u ∷ l) (assoc us ws zs)

-- appending the empty list changes nothing
right_nil : (us : List ℤ) → us ++ [] ≡ us
right_nil [] = refl
right_nil (u ∷ us) = ap (λ l. u ∷ l) (right_nil us)

-- the repeats of a longer list are those of its last entry before the others
pub repeats_push : (x k : ℕ) (es : List Entry) (e : Entry) → repeats_of x k (es ++ e ∷ []) ≡ repeat_value x k e ++ repeats_of x k es
repeats_push x k [] e = sym (right_nil (repeat_value x k e))
repeats_push x k (a ∷ es) e = ap (λ l. l ++ repeat_value x k a) (repeats_push x k es e)
    ∙ assoc (repeat_value x k e) (repeats_of x k es) (repeat_value x k a)

-- an entry that repeats nothing leaves them
pub repeats_kept : (x k : ℕ) (es : List Entry) (e : Entry) → repeat_value x k e ≡ [] → repeats_of x k (es ++ e ∷ []) ≡ repeats_of x k es
repeats_kept x k es e none = repeats_push x k es e ∙ ap (λ l. l ++ repeats_of x k es) none

-- no cached write has this number
none_repeats : (x k : ℕ) (es : List Entry) → ((i : ℕ) (value : ℤ) (raised : Bool) → At es i (Plain x k true true value raised) → ⊥)
    → repeats_of x k es ≡ []
none_repeats x k [] none = refl
none_repeats x k (e ∷ es) none = ap (λ l. l ++ repeat_value x k e) (none_repeats x k es (λ i v r at. none (suc i) v r at))
    ∙ here e (λ v r same. none zero v r (ap Some same))
  where
    here : (e : Entry) → ((v : ℤ) (r : Bool) → e ≡ Plain x k true true v r → ⊥) → repeat_value x k e ≡ []
    here (Plain var nth true true v r) not = by (var == x) refl (nth == k) refl
      where
        by : (a : Bool) → (var == x) ≡ a → (c : Bool) → (nth == k) ≡ c → repeat_value x k (Plain var nth true true v r) ≡ []
        by true p true q = absurd (not v r (λ i. Plain (eqb-true var x p i) (eqb-true nth k q i) true true v r))
        by true p false q = rw (p, q) refl
        by false p c q = rw p refl
    here (Plain var nth true false v r) not = refl
    here (Plain var nth false w v r) not = refl
    here (Sync a b c) not = refl
    here (Commit a b) not = refl
    here (Abort a b) not = refl
    here (Trim a) not = refl
    here (Over a) not = refl

-- an entry that gives a right under a number draws that number
gives_draws : (e : Entry) (x k : ℕ) (w : Bool) → GivesRight e x k w → Draws e x k
gives_draws (Plain var nth cached write value raised) x k w g = inr (g.0, g.2, g.3)
gives_draws (Sync a b c) x k w g = absurd g
gives_draws (Commit a b) x k w g = absurd g
gives_draws (Abort a b) x k w g = absurd g
gives_draws (Trim a) x k w g = absurd g
gives_draws (Over a) x k w g = absurd g

-- the next number has no repeats
pub next_unrepeated : (draws : ℕ → List Draw) (t : ℕ) (es : List Entry) (drawn : List Drawn) (x : ℕ) → AreDrawn draws t es drawn
    → IsFormed t es → repeats_of x (length (draws x)) es ≡ []
next_unrepeated draws t es drawn x d f = none_repeats x (length (draws x)) es (λ i v r at. by i v r at)
  where
    by : (i : ℕ) (v : ℤ) (r : Bool) → At es i (Plain x (length (draws x)) true true v r) → ⊥
    by i v true at = let z = (f.well_formed i (Plain x (length (draws x)) true true v true) at).0 in cc
    by i v false at =
        let h = f.cached i x (length (draws x)) true v at in
        let m = d.made x (length (draws x)) h.index h.entry h.there (gives_draws h.entry x (length (draws x)) h.by_write h.gives) in
        let l = draw_below (draws x) (length (draws x)) m.0 m.1 in omega arith

-- what is among one list is that list
one_shelf_is : (s r : Shelf) → Contains (s ∷ []) r → s ≡ r
one_shelf_is s r (zero, l, e) = e
one_shelf_is s r (suc k, l, e) = absurd (omega arith)

-- one-element lists that are equal have equal elements
head_is : (a b : Shelf) → a ∷ [] ≡ b ∷ [] → a ≡ b
head_is a b e = cc

-- what is owed fits still where the pass's own list and draws change, but not the owed last writes, nor what was repeated
pub owed_moves : (draws draws' : ℕ → List Draw) (owed : List (ℕ × ℤ)) (shelves : List Shelf) (s s' : Shelf) → shelves ≡ s ∷ [] → s'.thread
    ≡ s.thread → ((x : ℕ) (value : ℤ) → Contains owed (x, value) → (last_write x (draws' x) ≡ last_write x (draws x))
    × (last_position s'.marked ≡ last_position s.marked))
    → ((x : ℕ) (value : ℤ) → Contains owed (x, value) → IsCalm x (draws x) → IsCalm x (draws' x))
    → ((x : ℕ) (value : ℤ) (k : ℕ) (d : Draw) → Contains owed (x, value) → DrawAt (draws' x) k d → last_write x (draws' x) ≡ Some d
    → d.thread ≡ s.thread → DrawAt (draws x) k d × (repeats_of x k s'.marked ≡ repeats_of x k s.marked))
    → ((x k : ℕ) (d : Draw) → DrawAt (draws' x) k d → d.thread ≡ s.thread
    → (DrawAt (draws x) k d × (repeats_of x k s'.marked ≡ repeats_of x k s.marked))
    ⊎ ((d.repeats ≡ []) × (repeats_of x k s'.marked ≡ [])))
    → OwedFits draws owed shelves → OwedFits draws' owed (s' ∷ [])
owed_moves draws draws' owed shelves s s' is same owes calms keeps numbers f = record {
  calm = λ x v c. calms x v c (f.calm x v c);
  late = λ x v c r has k d at last own.
      let e : s' ≡ r = one_shelf_is s' r has in
      let own' : d.thread ≡ s.thread = own ∙ ap (λ (z : Shelf). z.thread) (sym e) ∙ same in
      let q = keeps x v k d c at last own' in
      let t = f.late x v c s (subst (λ l. Contains l s) (sym is) (zero, omega arith, refl)) k d q.0 (sym (owes x v c).0 ∙ last) own' in
      (t.0, ap (λ (z : Shelf). repeats_of x k z.marked) (sym e) ∙ q.1 ∙ t.1);
  once = f.once;
  owes = λ x value c.
      let o = f.owes x value c in
      let h = owes x value c in
      let e : o.shelf ≡ s = head_is o.shelf s (sym o.one ∙ is) in
      record {
        shelf = s';
        one = refl;
        draw = o.draw;
        last = h.0 ∙ o.last;
        own = o.own ∙ ap (λ (z : Shelf). z.thread) e
            ∙ sym same;
        block = h.1 ∙ ap (λ (z : Shelf). last_position z.marked) (sym e)
            ∙ o.block;
        number = o.number;
        value = o.value;
        plain = o.plain;
      };
  tied = λ r c x k d at own.
      let e : s' ≡ r = one_shelf_is s' r c in
      let own' : d.thread ≡ s.thread = own ∙ ap (λ (z : Shelf). z.thread) (sym e) ∙ same in
      subst (λ (z : Shelf). (pending : List ℤ) × (repeats_of x k z.marked ≡ pending ++ d.repeats)
      × ((pending ≡ []) ⊎ IsPending draws' owed x d pending)) e (elim (numbers x k d at own') [
        | inl old ↦
            (let t = f.tied s (subst (λ l. Contains l s) (sym is) (zero, omega arith, refl)) x k d old.0 own' in (
              t.0,
              old.1 ∙ t.1,
              elim t.2 [
                | inl z ↦ inl z
                | inr p ↦ inr (record {
                  value = p.value;
                  rest = p.rest;
                  is = p.is;
                  owes = p.owes;
                  last = (owes x p.value p.owes).0
                      ∙ p.last;
                })
              ],
            ))
        | inr new ↦ ([], new.1 ∙ sym new.0, inl refl)
      ]);
}

-- what is owed fits still where another thread changes the draws
pub owed_others : (draws draws' : ℕ → List Draw) (owed : List (ℕ × ℤ)) (shelves : List Shelf)
    → ((x : ℕ) → OwedOne draws shelves x → last_write x (draws' x) ≡ last_write x (draws x))
    → ((x : ℕ) → OwedOne draws shelves x → IsCalm x (draws x) → IsCalm x (draws' x))
    → ((s : Shelf) → Contains shelves s → (x k : ℕ) (d : Draw) → DrawAt (draws' x) k d → d.thread ≡ s.thread → DrawAt (draws x) k d)
    → OwedFits draws owed shelves → OwedFits draws' owed shelves
owed_others draws draws' owed shelves owes calms numbers f = record {
  calm = λ x v c. calms x (f.owes x v c) (f.calm x v c);
  late = λ x v c r has k d at last own. f.late x v c r has k d (numbers r has x k d at own) (sym (owes x (f.owes x v c)) ∙ last) own;
  once = f.once;
  owes = λ x value c. let o = f.owes x value c
      in record {
        shelf = o.shelf;
        one = o.one;
        draw = o.draw;
        last = owes x o
            ∙ o.last;
        own = o.own;
        block = o.block;
        number = o.number;
        value = o.value;
        plain = o.plain;
      };
  tied = λ r c x k d at own.
      let t = f.tied r c x k d (numbers r c x k d at own) own in (
        t.0,
        t.1,
        elim t.2 [
          | inl z ↦ inl z
          | inr p ↦
              inr (record { value = p.value; rest = p.rest; is = p.is; owes = p.owes; last = owes x (f.owes x p.value p.owes) ∙ p.last })
        ],
      );
}

-- where nothing is owed and there is no list, what is owed fits
pub owed_none : (draws : ℕ → List Draw) → OwedFits draws [] []
owed_none draws = record {
  calm = λ x v c. absurd (let l = c.1 in omega arith);
  late = λ x v c. absurd (let l = c.1 in omega arith);
  once = λ x v u c. absurd (let l = c.1 in omega arith);
  owes = λ x v c. absurd (let l = c.1 in omega arith);
  tied = λ s c. absurd (let l = c.1 in omega arith);
}

-- fewer shelves owe no more
pub owed_sub : (draws : ℕ → List Draw) (xs ys : List Shelf) → ((s : Shelf) → Contains ys s → Contains xs s) → OwedFits draws [] xs
    → OwedFits draws [] ys
owed_sub draws xs ys sub f = record {
  calm = λ x v c. absurd (let l = c.1 in omega arith);
  late = λ x v c. absurd (let l = c.1 in omega arith);
  once = f.once;
  owes = λ x v c. absurd (let l = c.1 in omega arith);
  tied = λ s c x k d at own. f.tied s (sub s c) x k d at own;
}

-- what is in two lists together is in one of them
pub either_in : (xs ys : List Shelf) (s : Shelf) → Contains (xs ++ ys) s → Contains xs s ⊎ Contains ys s
either_in [] ys s c = inr c
either_in (x ∷ xs) ys s (zero, l, e) = inl (zero, omega arith, e)
either_in (x ∷ xs) ys s (suc k, l, e) = elim (either_in xs ys s (k, omega arith, e))
    [ inl c ↦ inl (suc c.0, (let q = c.1 in omega arith), c.2) | inr c ↦ inr c ]

-- where nothing is owed, this fits the lists of two seats together, if it fits those of each
pub owed_both : (draws : ℕ → List Draw) (owed : List (ℕ × ℤ)) (xs ys : List Shelf) → owed ≡ [] → OwedFits draws owed xs
    → OwedFits draws [] ys → OwedFits draws owed (xs ++ ys)
owed_both draws owed xs ys none f g = subst (λ o. OwedFits draws o (xs ++ ys)) (sym none)
    (let f' : OwedFits draws [] xs = subst (λ o. OwedFits draws o xs) none f in record {
      calm = λ x v c. absurd (let l = c.1 in omega arith);
      late = λ x v c. absurd (let l = c.1 in omega arith);
      once = f'.once;
      owes = λ x v c. absurd (let l = c.1 in omega arith);
      tied = λ s c x k d at own. elim (either_in xs ys s c) [ inl a ↦ f'.tied s a x k d at own | inr a ↦ g.tied s a x k d at own ];
    })

-- what is owed fits still with one entry more in the own list that is no cached write, where the draws stay
pub owed_push : (draws : ℕ → List Draw) (owed : List (ℕ × ℤ)) (shelves : List Shelf) (s : Shelf) (e : Entry) → shelves ≡ s ∷ []
    → ((o : ℕ × ℤ) → Contains owed o → last_position (s.marked ++ e ∷ []) ≡ last_position s.marked) → ((x k : ℕ) → repeat_value x k e ≡ [])
    → OwedFits draws owed shelves → OwedFits draws owed (shelf s.thread (s.marked ++ e ∷ []) ∷ [])
owed_push draws owed shelves s e one same none f =
    owed_moves draws draws owed shelves s (shelf s.thread (s.marked ++ e ∷ [])) one refl (λ x v c. (refl, same (x, v) c)) (λ x v c q. q)
    (λ x v k d c at last own. (at, repeats_kept x k s.marked e (none x k)))
    (λ x k d at own. inl (at, repeats_kept x k s.marked e (none x k))) f

-- an event repeats nothing
pub event_no_repeat : (e : Entry) (n : ℕ) → Rattle.gl_model.specs.Records.position_of e ≡ Some n → (x k : ℕ) → repeat_value x k e ≡ []
event_no_repeat (Sync a b c) n p x k = refl
event_no_repeat (Commit a b) n p x k = refl
event_no_repeat (Plain a b c d e f) n p x k = absurd (cc)
event_no_repeat (Abort a b) n p x k = refl
event_no_repeat (Trim a) n p x k = refl
event_no_repeat (Over a) n p x k = refl

-- another thread writes nothing behind a write that is owed
pub calm_write : (log : List Stamp) (draws : ℕ → List Draw) (shelves : List Shelf) (x : ℕ) (d : Draw) (ds : List Draw)
    (o : OwedOne draws shelves x) → last_write x ds ≡ Some o.draw
    → ((s : Shelf) → Contains shelves s → (d.thread ≢ s.thread) × AreEvents log s.thread s.marked) → DrawsHold log x (d ∷ ds)
    → is_write x d.what ≡ false
calm_write log draws shelves x d ds o last_is other all = by (is_write x d.what) refl
  where
    by : (q : Bool) → is_write x d.what ≡ q → is_write x d.what ≡ false
    by false e = e
    by true e =
        let w = entry_of_write x (length ds) d.what all.0.named e in
        let s = other o.shelf (subst (λ l. Contains l o.shelf) (sym o.one) (zero, omega arith, refl)) in
        let last = last_own log o.shelf.thread o.shelf.marked s.1 o.draw.block o.block in
        absurd (none_behind log x o.draw d ds (Plain x o.number false true o.value false) w.0 all.0
        (last_write-among log x ds o.draw last_is).0 o.plain refl tt (refl, refl) (ap Rattle.gl_draws.specs.Draws.variables_in o.plain)
        (λ q z at own. last.upto q z at (own ∙ o.own)) w.1 w.2.0 (λ same. s.0 (sym same ∙ o.own)))

-- and performs no access
pub calm_any : (log : List Stamp) (draws : ℕ → List Draw) (shelves : List Shelf) (x : ℕ) (d : Draw) (ds : List Draw)
    (o : OwedOne draws shelves x) → last_write x ds ≡ Some o.draw
    → ((s : Shelf) → Contains shelves s → (d.thread ≢ s.thread) × AreEvents log s.thread s.marked) → DrawsHold log x (d ∷ ds) → (e : Entry)
    → d.what ≡ Entered e → Rattle.gl_model.specs.Records.IsPerformed e → ⊥
calm_any log draws shelves x d ds o last_is other all e is performed =
    let s = other o.shelf (subst (λ l. Contains l o.shelf) (sym o.one) (zero, omega arith, refl)) in
    let last = last_own log o.shelf.thread o.shelf.marked s.1 o.draw.block o.block in
    none_behind log x o.draw d ds (Plain x o.number false true o.value false) e all.0 (last_write-among log x ds o.draw last_is).0 o.plain
    refl tt (refl, refl) (ap Rattle.gl_draws.specs.Draws.variables_in o.plain)
    (λ q z at own. last.upto q z at (own ∙ o.own)) is performed (λ same. s.0 (sym same ∙ o.own))

-- the last write is not changed by a draw that writes nothing
pub write_past : (x : ℕ) (d : Draw) (ds : List Draw) → is_write x d.what ≡ false → last_write x (d ∷ ds) ≡ last_write x ds
write_past x d ds e = rw e refl

-- the last write writes
pub last_written : (x : ℕ) (l : List Draw) (d : Draw) → last_write x l ≡ Some d → is_write x d.what ≡ true
last_written x [] d e = absurd (cc)
last_written x (a ∷ l) d e = by (is_write x a.what) refl (λ q. last_written x l d q)
  where
    by : (b : Bool) → is_write x a.what ≡ b → (last_write x l ≡ Some d → is_write x d.what ≡ true) → is_write x d.what ≡ true
    by true w rec = let q : Some a ≡ Some d = rw w at e in let same : a ≡ d = cc in subst (λ (z : Draw). is_write x z.what ≡ true) same w
    by false w rec = let q : last_write x l ≡ Some d = rw w at e in rec q

-- a number that waits for its entry has no repeats
pub open_unrepeated : (draws : ℕ → List Draw) (owed : List (ℕ × ℤ)) (shelves : List Shelf) (s : Shelf) (x : ℕ) (d : Draw) (ds : List Draw)
    → shelves ≡ s ∷ [] → draws x ≡ d ∷ ds → d.thread ≡ s.thread → is_write x d.what ≡ false → d.repeats ≡ [] → OwedFits draws owed shelves
    → repeats_of x (length ds) s.marked ≡ []
open_unrepeated draws owed shelves s x d ds one is own not_write none f =
    let at : DrawAt (draws x) (length ds) d = subst (λ l. DrawAt l (length ds) d) (sym is) (inl (refl, refl)) in
    let t = f.tied s (subst (λ l. Contains l s) (sym one) (zero, omega arith, refl)) x (length ds) d at own in
    elim t.2 [
      | inl z ↦ t.1 ∙ ap (λ l. l ++ d.repeats) z ∙ none
      | inr p ↦ absurd (let w = last_written x (draws x) d p.last in let c : true ≡ false = sym w ∙ not_write in cc)
    ]
