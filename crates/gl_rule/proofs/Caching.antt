-- The rule when a cached entry is recorded: no word and no draw changes.
use Rattle.std.proofs.Common.{◌≡◌, ◌≢◌, ℕ, zero, suc, ◌+◌, ◌==◌, List, [], ◌∷◌, ◌++◌, length, set, sym, refl, ap, subst, arith, ◌∙◌, inl, inr, Some, true, false, Bool, not, eq-eqb, ne_eqb}
use Rattle.std.specs.Prelude.{ℤ, Contains, ◌⊎◌}
use Rattle.std.specs.List.{filter}
use native.Mathlib.Decide.{ℕ_discrete}
use mathlib.Core.Option.{some}
use lib.ListN.{get_elem?}
use Rattle.atomic_table.specs.Table as table
use Rattle.gl_model.specs.Entries.{Entry, Sync, Commit, Plain, Abort, Trim, Over}
use Rattle.gl_model.specs.Form.{Draws, IsEnd, HasRight, GivesRight}
use Rattle.gl_model.specs.Records.{position_of}
use Rattle.gl_draws.specs.Draws.{Entered, Draw, DrawAt, last_write}
use Rattle.gl_draws.specs.Ties.{Drawn, AreDrawn, IsKept, in_list, in_flight, IsFor, IsStill, last_position}
use Rattle.gl_draws.proofs.DrawCounts.{counted_more}
use Rattle.gl_draws.proofs.DrawPlaces.{one_draw}
use Rattle.gl_draws.proofs.DrawTies.{drawn_push}
use Rattle.gl_draws.proofs.EventTies.{events_push}
use Rattle.gl_draws.proofs.Pushes.{at_cases, last_push}
use Rattle.gl_rule.specs.declared.slot.Slot.{Slot}
use Rattle.gl_rule.specs.Adding.{MayCache}
use Rattle.gl_rule.specs.Commits.{owed_after, cached_in}
use Rattle.gl_rule.specs.Objects.{Key, board, capacity}
use Rattle.gl_rule.specs.View.{View, Shelf, shelf}
use Rattle.gl_rule.specs.World.{World}
use Rattle.gl_rule.specs.Turns.{HeldOne}
use Rattle.gl_rule.specs.Positions.{ShelfFits}
use Rattle.gl_rule.specs.Numbers.{ShelfDraws}
use Rattle.gl_rule.specs.Knowledge.{AreBelow}
use Rattle.gl_rule.specs.Machine.{ShelfCarries}
use Rattle.gl_draws.specs.Repeated.{IsCalm}
use Rattle.gl_rule.specs.Owed.{repeat_value, repeats_of, with_owed, OwedOne, IsPending, OwedFits}
use Rattle.gl_rule.specs.Refusals.{ShelfRefusals}
use Rattle.gl_rule.specs.Ring.{ShelfTrims}
use Rattle.gl_rule.specs.Rule.{Fits, Holds}
use Rattle.gl_draws.proofs.Forming.{formed_push, store_running}
use Rattle.gl_rule.proofs.Frames.{reviews}
use Rattle.gl_rule.proofs.HeldLists.{all_map, only_shelf, one_shelf, in_cons}
use Rattle.gl_rule.proofs.Owing.{owed_push, repeats_push, repeats_kept}
use Rattle.gl_rule.proofs.Publishing.{trims_push, same_thread}
use Rattle.gl_draws.proofs.Refusing.{refusals_push}
use Rattle.gl_rule.proofs.Refusing.{carries_push}
use Rattle.gl_draws.proofs.Rights.{its, what_is, last_is, right_owes, right_calm}
use Rattle.gl_rule.proofs.Tries.{tries_moved}

-- a cached entry draws no number
no_draws : (x k : ℕ) (write : Bool) (value : ℤ) (y n : ℕ) → Draws (Plain x k true write value false) y n → ⊥
no_draws x k write value y n (inl l) = l
no_draws x k write value y n (inr l) = let z = l.0 in cc

-- what is owed of another variable than x is among what is left of the owed words without x
pub in_rest : (x y : ℕ) (v : ℤ) (owed : List (ℕ × ℤ)) → y ≢ x → Contains owed (y, v)
    → Contains (filter (λ (o : ℕ × ℤ). not (o.0 == x)) owed) (y, v)
in_rest x y v [] ne c = absurd (let l = c.1 in omega arith)
in_rest x y v (o ∷ os) ne (zero, l, e) = let same : o.0 ≡ y = ap (λ (z : ℕ × ℤ). z.0) e in let b : (o.0 == x)
    ≡ false = ne_eqb o.0 x (λ z. ne (sym same ∙ z)) in rw b (zero, omega arith, e)
in_rest x y v (o ∷ os) ne (suc k, l, e) = here (ℕ_discrete o.0 x) (in_rest x y v os ne (k, omega arith, e))
  where
    here : Dec (o.0 ≡ x) → Contains (filter (λ (o : ℕ × ℤ). not (o.0 == x)) os) (y, v)
        → Contains (filter (λ (o : ℕ × ℤ). not (o.0 == x)) (o ∷ os)) (y, v)
    here (yes s) r = let b : (o.0 == x) ≡ true = eq-eqb o.0 x s in rw b r
    here (no s) r = let b : (o.0 == x) ≡ false = ne_eqb o.0 x s in rw b (in_cons o (filter (λ (o : ℕ × ℤ). not (o.0 == x)) os) (y, v) r)

-- what is left of the owed words without x was owed, and is not of x
pub rest_in : (x y : ℕ) (v : ℤ) (owed : List (ℕ × ℤ)) → Contains (filter (λ (o : ℕ × ℤ). not (o.0 == x)) owed) (y, v)
    → Contains owed (y, v) × (y ≢ x)
rest_in x y v [] c = absurd (let l = c.1 in omega arith)
rest_in x y v (o ∷ os) c = here (ℕ_discrete o.0 x) (λ q. rest_in x y v os q)
  where
    here : Dec (o.0 ≡ x) → (Contains (filter (λ (o : ℕ × ℤ). not (o.0 == x)) os) (y, v) → Contains os (y, v) × (y ≢ x))
        → Contains (o ∷ os) (y, v) × (y ≢ x)
    here (yes s) rec = let b : (o.0 == x) ≡ true = eq-eqb o.0 x s in let c' : Contains (filter (λ (o : ℕ × ℤ). not (o.0 == x)) os) (y, v) =
        rw b at c in let r = rec c' in (in_cons o os (y, v) r.0, r.1)
    here (no s) rec =
        let b : (o.0 == x) ≡ false = ne_eqb o.0 x s in
        let c' : Contains (o ∷ filter (λ (o : ℕ × ℤ). not (o.0 == x)) os) (y, v) = rw b at c in split c'
      where
        split : Contains (o ∷ filter (λ (o : ℕ × ℤ). not (o.0 == x)) os) (y, v) → Contains (o ∷ os) (y, v) × (y ≢ x)
        split (zero, l, e) = ((zero, omega arith, e), λ z. s (ap (λ (a : ℕ × ℤ). a.0) e ∙ z))
        split (suc k, l, e) = let r = rec (k, omega arith, e) in (in_cons o os (y, v) r.0, r.1)

-- a cached write of x under k repeats its value for x and k
repeat_here : (x k : ℕ) (value : ℤ) → repeat_value x k (Plain x k true true value false) ≡ value ∷ []
repeat_here x k value = let a : (x == x) ≡ true = eq-eqb x x refl in let b : (k == k) ≡ true = eq-eqb k k refl in rw (a, b) refl

-- a cached write of x under k repeats nothing for another variable or number
repeat_else : (x k y n : ℕ) (value : ℤ) → (y ≡ x → n ≡ k → ⊥) → repeat_value y n (Plain x k true true value false) ≡ []
repeat_else x k y n value apart = here (ℕ_discrete x y) (ℕ_discrete k n)
  where
    here : Dec (x ≡ y) → Dec (k ≡ n) → repeat_value y n (Plain x k true true value false) ≡ []
    here (yes a) (yes b) = absurd (apart (sym a) (sym b))
    here (yes a) (no b) = let q : (x == y) ≡ true = eq-eqb x y a in let r : (k == n) ≡ false = ne_eqb k n b in rw (q, r) refl
    here (no a) b = let q : (x == y) ≡ false = ne_eqb x y a in rw q refl

-- the draw of an entry has its number
pub number_is : (draws : ℕ → List Draw) (t : ℕ) (es : List Entry) (drawn : List Drawn) (x k n : ℕ) (v : ℤ) (d : Draw)
    → AreDrawn draws t es drawn → DrawAt (draws x) n d → d.thread ≡ t → d.what ≡ Entered (Plain x k false true v false) → n ≡ k
number_is draws t es drawn x k n v d k' at own is = by (k'.kept x n d at own)
  where
    by : IsKept es drawn x n d → n ≡ k
    by (in_flight look c still) = absurd (let z : IsStill (Entered (Plain x k false true v false)) look =
        subst (λ w. IsStill w look) is still in z)
    by (in_list i g a dr f b) = let q : IsFor (Entered (Plain x k false true v false)) g x n = subst (λ w. IsFor w g x n) is f
        in let r : Draws (Plain x k false true v false) x n = subst (λ z. Draws z x n) (sym q.0) dr in number r
      where
        number : Draws (Plain x k false true v false) x n → n ≡ k
        number (inl l) = absurd l
        number (inr l) = sym l.2

-- an entry that gives the right to repeat writes under a number is an uncached write of that variable and number
right_value : (e : Entry) (x k : ℕ) → GivesRight e x k true → (value : ℤ) × (e ≡ Plain x k false true value false)
right_value (Plain var nth cached write value raised) x k g = (value, λ i. Plain (g.2 i) (g.3 i) (g.0 i) (g.4 i) value (g.1 i))
right_value (Sync a b c) x k g = absurd g
right_value (Commit a b) x k g = absurd g
right_value (Abort a b) x k g = absurd g
right_value (Trim a) x k g = absurd g
right_value (Over a) x k g = absurd g

-- a right to repeat a write comes from an uncached write of that variable and number
by_a_write : (es : List Entry) (x k : ℕ) → HasRight es (length es) x k true → (r : HasRight es (length es) x k true)
    × ((value : ℤ) × (r.entry ≡ Plain x k false true value false))
by_a_write es x k r = let w : GivesRight r.entry x k true = subst (λ b. GivesRight r.entry x k b) (r.enough refl) r.gives
    in let q = right_value r.entry x k w in (r, (q.0, q.1))

module _ (key : Key) (w : World) (st : table.State Slot View) (id : ℕ) (v : View) (s : Shelf) (x k : ℕ) (value : ℤ) (one : v.shelves ≡ s
    ∷ []) (H : Holds key w st) (here : get_elem? st.views id ≡ some v) where
  -- the pass's view fits
  mine : Fits key (board (capacity key) st.words) w id v
  mine = H.views.at id v here

  -- its one list has its thread's events, in a form that it may have so far
  f : ShelfFits w.log w.seat id s
  f = only_shelf (ShelfFits w.log w.seat id) v s one mine.positions.shelves

  -- each draw of its thread has its entry in the list, or waits for it
  d : ShelfDraws w.draws v.drawn s
  d = only_shelf (ShelfDraws w.draws v.drawn) v s one mine.numbers.shelves

  -- a cached write is owed
  pub owed_write : HasRight s.marked (length s.marked) x k true
      → OwedFits w.draws (with_owed x value v.owed) (shelf s.thread (s.marked ++ Plain x k true true value false ∷ []) ∷ [])
  owed_write right = record { calm = calm; late = late; once = once; owes = owes; tied = tied }
    where
      e : Entry
      e = Plain x k true true value false

      s' : Shelf
      s' = shelf s.thread (s.marked ++ Plain x k true true value false ∷ [])

      g : (r : HasRight s.marked (length s.marked) x k true) × ((value : ℤ) × (r.entry ≡ Plain x k false true value false))
      g = by_a_write s.marked x k right

      old : OwedFits w.draws v.owed (s ∷ [])
      old = subst (λ l. OwedFits w.draws v.owed l) one mine.owed

      its' : (a : Draw) × DrawAt (w.draws x) k a × (a.thread ≡ s.thread) × IsKept s.marked v.drawn x k a × IsFor a.what g.0.entry x k
      its' = its w.log w.draws s.thread s.marked v.drawn x k f.events d.numbers (H.whole.verdicts x) g.0 x k g.1.0 g.1.1

      what' : its'.0.what ≡ Entered (Plain x k false true g.1.0 false)
      what' = what_is w.log w.draws s.thread s.marked v.drawn x k f.events d.numbers (H.whole.verdicts x) g.0 x k g.1.0 g.1.1

      last' : last_write x (w.draws x) ≡ Some its'.0
      last' = last_is w.log w.draws s.thread s.marked v.drawn x k f.events d.numbers (H.whole.verdicts x) g.0 x k g.1.0 g.1.1

      own : OwedOne w.draws (s ∷ []) x
      own =
          let r = right_owes w.log w.draws s.thread s.marked v.drawn x k f.events d.numbers (H.whole.verdicts x) g.0 x k g.1.0 g.1.1 in
          record {
            shelf = s;
            one = refl;
            draw = r.draw;
            last = r.last;
            own = r.own;
            block = r.block;
            number = r.number;
            value = r.value;
            plain = r.plain;
          }

      moved : (y : ℕ) → OwedOne w.draws (s ∷ []) y
          → OwedOne w.draws (shelf s.thread (s.marked ++ Plain x k true true value false ∷ []) ∷ []) y
      moved y o =
          let same : s ≡ o.shelf = head s o.shelf o.one in
          record {
            shelf = shelf s.thread (s.marked ++ Plain x k true true value false ∷ []);
            one = refl;
            draw = o.draw;
            last = o.last;
            own = o.own ∙ ap (λ (z : Shelf). z.thread) (sym same);
            block = last_push s.marked (Plain x k true true value false)
                ∙ ap (λ (z : Shelf). last_position z.marked) same ∙ o.block;
            number = o.number;
            value = o.value;
            plain = o.plain;
          }
        where
          head : (a b : Shelf) → a ∷ [] ≡ b ∷ [] → a ≡ b
          head a b z = cc

      first_or : (y : ℕ) (u : ℤ) → Contains (with_owed x value v.owed) (y, u) → ((y ≡ x) × (u ≡ value)) ⊎ (Contains v.owed (y, u) × (y ≢ x))
      first_or y u (zero, l, z) = inl (sym (ap (λ (a : ℕ × ℤ). a.0) z), sym (ap (λ (a : ℕ × ℤ). a.1) z))
      first_or y u (suc i, l, z) = inr (rest_in x y u v.owed (i, omega arith, z))

      once : (y : ℕ) (a c : ℤ) → Contains (with_owed x value v.owed) (y, a) → Contains (with_owed x value v.owed) (y, c) → a ≡ c
      once y a c p q = elim (first_or y a p) [
        | inl i ↦ elim (first_or y c q) [ inl j ↦ i.1 ∙ sym j.1 | inr j ↦ absurd (j.1 i.0) ]
        | inr i ↦ elim (first_or y c q) [ inl j ↦ absurd (i.1 j.0) | inr j ↦ old.once y a c i.0 j.0 ]
      ]

      owes : (y : ℕ) (u : ℤ) → Contains (with_owed x value v.owed) (y, u)
          → OwedOne w.draws (shelf s.thread (s.marked ++ Plain x k true true value false ∷ []) ∷ []) y
      owes y u c = elim (first_or y u c) [
        | inl i ↦
            subst (λ z. OwedOne w.draws (shelf s.thread (s.marked ++ Plain x k true true value false ∷ []) ∷ []) z) (sym i.0) (moved x own)
        | inr i ↦ moved y (old.owes y u i.0)
      ]

      at_new : (n : ℕ) (a : Draw) → n ≡ k → DrawAt (w.draws x) n a → a.thread ≡ s.thread → (pending : List ℤ)
          × (repeats_of x n (s.marked ++ Plain x k true true value false ∷ []) ≡ pending ++ a.repeats)
          × ((pending ≡ []) ⊎ IsPending w.draws (with_owed x value v.owed) x a pending)
      at_new n a same at own' =
          let t = old.tied s (zero, omega arith, refl) x n a at own' in
          let value_is : repeat_value x n (Plain x k true true value false) ≡ value
          ∷ [] = ap (λ z. repeat_value x z (Plain x k true true value false)) same ∙ repeat_here x k value in
          let is : a ≡ its'.0 = one_draw (w.draws x) k a its'.0 (subst (λ z. DrawAt (w.draws x) z a) same at) its'.1 in (
            value ∷ t.0,
            repeats_push x n s.marked (Plain x k true true value false) ∙ ap (λ l. l ++ repeats_of x n s.marked) value_is
                ∙ ap (λ l. value ∷ l) t.1,
            inr (record {
              value = value;
              rest = t.0;
              is = refl;
              owes = (zero, omega arith, refl);
              last = last'
                  ∙ ap Some (sym is);
            }),
          )

      at_else : (y n : ℕ) (a : Draw) → (y ≡ x → n ≡ k → ⊥) → DrawAt (w.draws y) n a → a.thread ≡ s.thread → (pending : List ℤ)
          × (repeats_of y n (s.marked ++ Plain x k true true value false ∷ []) ≡ pending ++ a.repeats)
          × ((pending ≡ []) ⊎ IsPending w.draws (with_owed x value v.owed) y a pending)
      at_else y n a apart at own' =
          let t = old.tied s (zero, omega arith, refl) y n a at own' in (
            t.0,
            repeats_kept y n s.marked (Plain x k true true value false) (repeat_else x k y n value apart) ∙ t.1,
            elim t.2 [
              | inl z ↦ inl z
              | inr p ↦ elim (ℕ_discrete y x) [
                | yes q ↦ absurd (apart q (same_number y n a q at own' p.last))
                | no ne ↦ inr (record {
                  value = p.value;
                  rest = p.rest;
                  is = p.is;
                  owes =
                      in_cons (x, value) (filter (λ (o : ℕ × ℤ). not (o.0 == x)) v.owed) (y, p.value)
                      (in_rest x y p.value v.owed ne p.owes);
                  last = p.last;
                })
              ]
            ],
          )
        where
          draw_is : (a b : Draw) → Some a ≡ Some b → a ≡ b
          draw_is a b z = cc

          same_number : (y n : ℕ) (a : Draw) → y ≡ x → DrawAt (w.draws y) n a → a.thread ≡ s.thread → last_write y (w.draws y) ≡ Some a → n
              ≡ k
          same_number y n a q at own' l =
              let at' : DrawAt (w.draws x) n a = subst (λ z. DrawAt (w.draws z) n a) q at in
              let l' : last_write x (w.draws x) ≡ Some a = subst (λ z. last_write z (w.draws z) ≡ Some a) q l in
              let is : a ≡ its'.0 = draw_is a its'.0 (sym l' ∙ last') in
              number_is w.draws s.thread s.marked v.drawn x k n g.1.0 a d.numbers at' own' (ap (λ (z : Draw). z.what) is ∙ what')

      calm : (y : ℕ) (u : ℤ) → Contains (with_owed x value v.owed) (y, u) → IsCalm y (w.draws y)
      calm y u c = elim (first_or y u c) [
        | inl i ↦
            subst (λ z. IsCalm z (w.draws z)) (sym i.0)
            (right_calm w.log w.draws s.thread s.marked v.drawn x k f.events d.numbers (H.whole.verdicts x) g.0 x k g.1.0 g.1.1)
        | inr i ↦ old.calm y u i.0
      ]

      late : (y : ℕ) (u : ℤ) → Contains (with_owed x value v.owed) (y, u) → (r : Shelf)
          → Contains (shelf s.thread (s.marked ++ Plain x k true true value false ∷ []) ∷ []) r → (n : ℕ) (a : Draw)
          → DrawAt (w.draws y) n a
          → last_write y (w.draws y) ≡ Some a → a.thread ≡ r.thread → (rest : List ℤ) × (repeats_of y n r.marked ≡ (u ∷ rest) ++ a.repeats)
      late y u c r (suc i, l, z) n a at last own' = absurd (omega arith)
      late y u c r (zero, l, z) n a at last own' =
          let same : shelf s.thread (s.marked ++ Plain x k true true value false ∷ []) ≡ r = z in
          let own'' : a.thread ≡ s.thread = own' ∙ ap (λ (q : Shelf). q.thread) (sym same) in
          subst (λ (q : Shelf). (rest : List ℤ) × (repeats_of y n q.marked ≡ (u ∷ rest) ++ a.repeats)) same (elim (first_or y u c) [
            | inl i ↦
                (let at' : DrawAt (w.draws x) n a = subst (λ b. DrawAt (w.draws b) n a) i.0 at in
                let last'' : last_write x (w.draws x) ≡ Some a = subst (λ b. last_write b (w.draws b) ≡ Some a) i.0 last in
                let is : a ≡ its'.0 = draw_same a its'.0 (sym last'' ∙ last') in
                let m : n ≡ k = number_is w.draws s.thread s.marked v.drawn x k n g.1.0 a d.numbers at' own'' (ap (λ (b : Draw). b.what) is
                ∙ what') in
                let t = old.tied s (zero, omega arith, refl) x n a at' own'' in
                let value_is : repeat_value x n (Plain x k true true value false) ≡ value
                ∷ [] = ap (λ b. repeat_value x b (Plain x k true true value false)) m ∙ repeat_here x k value in (
                  t.0,
                  ap (λ b. repeats_of b n (s.marked ++ Plain x k true true value false ∷ [])) i.0
                      ∙ repeats_push x n s.marked (Plain x k true true value false) ∙ ap (λ b. b ++ repeats_of x n s.marked) value_is
                      ∙ ap (λ b. value ∷ b) t.1 ∙ ap (λ b. (b ∷ t.0) ++ a.repeats) (sym i.1),
                ))
            | inr i ↦ (let t = old.late y u i.0 s (zero, omega arith, refl) n a at last own''
                in (t.0, repeats_kept y n s.marked (Plain x k true true value false) (repeat_else x k y n value (λ b c. i.1 b)) ∙ t.1))
          ])
        where
          draw_same : (a b : Draw) → Some a ≡ Some b → a ≡ b
          draw_same a b z = cc

      tied : (r : Shelf) → Contains (shelf s.thread (s.marked ++ Plain x k true true value false ∷ []) ∷ []) r → (y n : ℕ) (a : Draw)
          → DrawAt (w.draws y) n a → a.thread ≡ r.thread
          → (pending : List ℤ) × (repeats_of y n r.marked ≡ pending ++ a.repeats)
          × ((pending ≡ []) ⊎ IsPending w.draws (with_owed x value v.owed) y a pending)
      tied r (suc i, l, z) y n a at own' = absurd (omega arith)
      tied r (zero, l, z) y n a at own' =
          let same : shelf s.thread (s.marked ++ Plain x k true true value false ∷ []) ≡ r = z in
          let own'' : a.thread ≡ s.thread = own' ∙ ap (λ (q : Shelf). q.thread) (sym same) in
          subst (λ (q : Shelf). (pending : List ℤ) × (repeats_of y n q.marked ≡ pending ++ a.repeats)
          × ((pending ≡ []) ⊎ IsPending w.draws (with_owed x value v.owed) y a pending)) same
          (elim (ℕ_discrete y x) [
            | yes q ↦ elim (ℕ_discrete n k) [
              | yes m ↦ subst (λ (b : ℕ). DrawAt (w.draws b) n a → (pending : List ℤ)
                  × (repeats_of b n (s.marked ++ Plain x k true true value false ∷ []) ≡ pending ++ a.repeats)
                  × ((pending ≡ []) ⊎ IsPending w.draws (with_owed x value v.owed) b a pending)) (sym q) (λ at'. at_new n a m at' own'') at
              | no m ↦ at_else y n a (λ b c. m c) at own''
            ]
            | no ne ↦ at_else y n a (λ b c. ne b) at own''
          ])

-- recording a cached access keeps the rule
pub caches : (key : Key) (w : World) (st : table.State Slot View) (id : ℕ) (v : View) (s : Shelf) (x k : ℕ) (write : Bool) (value : ℤ)
    → v.shelves ≡ s ∷ [] → MayCache s v x k write value → Holds key w st → get_elem? st.views id ≡ some v
    → Holds key w (record { words = st.words; homes = st.homes; views = set st.views id (cached_in v s.thread s.marked x k write value) })
caches key w st id v s x k write value one may H here =
    let b = board (capacity key) st.words in
    let e : Entry = Plain x k true write value false in
    let mine : Fits key b w id v = H.views.at id v here in
    let f : ShelfFits w.log w.seat id s = only_shelf (ShelfFits w.log w.seat id) v s one mine.positions.shelves in
    let d : ShelfDraws w.draws v.drawn s = only_shelf (ShelfDraws w.draws v.drawn) v s one mine.numbers.shelves in
    reviews key w st id v (cached_in v s.thread s.marked x k write value) here (λ g o. o) H (record {
      tries = tries_moved w.stopped w.takers v s (shelf s.thread (s.marked ++ e ∷ [])) one refl mine.tries;
      turns = record {
        held = all_map (HeldOne b.turn w.holder id v.shelves)
            (HeldOne b.turn w.holder id (shelf s.thread (s.marked ++ e ∷ []) ∷ [])) v.held
            (λ g q. record {
              named = q.named;
              here = q.here;
              shelf = shelf s.thread (s.marked ++ e ∷ []);
              one = refl;
              busy = q.busy
                  ∙ ap (λ t. t + 1) (same_thread v q.shelf s q.one one);
            }) mine.turns.held;
      };
      positions = record {
        shelves = one_shelf (ShelfFits w.log w.seat id) (shelf s.thread (s.marked ++ e ∷ []))
            (record {
              here = f.here;
              named = f.named;
              events = events_push w.log s.thread s.marked f.events e refl;
              form =
                  formed_push s.thread s.marked e (store_running s.thread may.position s.marked e f.form may.block may.goes_on tt (λ t. t)
                  (λ t. t)
                  (λ y n z u same. right y n z u same) (λ y n u same. value_of_read y n u same)) f.form;
              made = (let a = f.made in let g = counted_more s.marked e in omega arith);
            });
      };
      values = record { held = mine.values.held };
      numbers = record {
        shelves = one_shelf (ShelfDraws w.draws v.drawn) (shelf s.thread (s.marked ++ e ∷ []))
            (record {
              numbers = drawn_push w.draws s.thread s.marked v.drawn e (no_draws x k write value) d.numbers;
              few = λ y. let a = d.few y in let g = counted_more s.marked e in omega arith;
              two = d.two;
              above = λ y n m i g o at dr has. elim (at_cases s.marked e g i at) [
                | inl old ↦ d.above y n m i g o old dr has
                | inr new ↦ absurd (no_draws x k write value y n (subst (λ z. Draws z y n) new.1 dr))
              ];
              runs = λ o has. let r = d.runs o has in (
                r.0,
                last_push s.marked e
                    ∙ r.1,
                λ i g at z. elim (at_cases s.marked e g i at) [
                  | inl old ↦ r.2 i g old z
                  | inr new ↦ (let a : IsEnd e = subst IsEnd new.1 z in a)
                ],
              );
            });
      };
      knowledge = record {
        seen = mine.knowledge.seen;
        own =
            one_shelf (AreBelow v.seen) (shelf s.thread (s.marked ++ e ∷ []))
            (λ i a g at z. elim (at_cases s.marked e g i at) [
              | inl old ↦ only_shelf (AreBelow v.seen) v s one mine.knowledge.own i a g old z
              | inr new ↦ absurd (let y : position_of e ≡ Some a = rw new.1 at z in cc)
            ]);
        known = mine.knowledge.known;
        tails = mine.knowledge.tails;
        reads = mine.knowledge.reads;
        loaded = mine.knowledge.loaded;
      };
      ring = record {
        floors = mine.ring.floors;
        stored = mine.ring.stored;
        few = mine.ring.few;
        by_holder = mine.ring.by_holder;
        lows =
            one_shelf (ShelfTrims w.trims) (shelf s.thread (s.marked ++ e ∷ []))
            (trims_push w.trims s.thread s.marked e (λ t. t) (only_shelf (ShelfTrims w.trims) v s one mine.ring.lows));
      };
      quiet = record { none_live = mine.quiet.none_live };
      refusals = record {
        held = mine.refusals.held;
        shelves =
            one_shelf (ShelfRefusals w.until) (shelf s.thread (s.marked ++ e ∷ []))
            (refusals_push w.until s.marked e (λ tx a z. absurd (cc)) (only_shelf (ShelfRefusals w.until) v s one mine.refusals.shelves));
      };
      carries = record {
        shelves = one_shelf (ShelfCarries w.values) (shelf s.thread (s.marked ++ e ∷ []))
            (carries_push w.values s.thread s.marked e refl (only_shelf (ShelfCarries w.values) v s one mine.carries.shelves));
      };
      owed = owed write may.right;
    })
  where
    value_of_read : (y n : ℕ) (u : ℤ) → Plain x k true write value false ≡ Plain y n true false u false
        → Rattle.gl_draws.specs.Cached.IsLastValue s.marked (length s.marked) y u
    value_of_read y n u same =
        let a : x ≡ y = cc in
        let c : value ≡ u = cc in
        let g : write ≡ false = cc in
        subst (λ q. Rattle.gl_draws.specs.Cached.IsLastValue s.marked (length s.marked) q u) a
        (subst (λ q. Rattle.gl_draws.specs.Cached.IsLastValue s.marked (length s.marked) x q) c (may.word g))

    right : (y n : ℕ) (z : Bool) (u : ℤ) → Plain x k true write value false ≡ Plain y n true z u false
        → HasRight s.marked (length s.marked) y n z
    right y n z u same =
        let a : x ≡ y = cc in
        let c : k ≡ n = cc in
        let g : write ≡ z = cc in
        subst (λ q. HasRight s.marked (length s.marked) q n z) a
        (subst (λ q. HasRight s.marked (length s.marked) x q z) c (subst (λ q. HasRight s.marked (length s.marked) x k q) g may.right))

    owed : (q : Bool) → HasRight s.marked (length s.marked) x k q
        → OwedFits w.draws (owed_after q x value v.owed) (shelf s.thread (s.marked ++ Plain x k true q value false ∷ []) ∷ [])
    owed true r = owed_write key w st id v s x k value one H here r
    owed false r = owed_push w.draws v.owed v.shelves s (Plain x k true false value false) one
        (λ o c. last_push s.marked (Plain x k true false value false)) (λ y n. refl) (H.views.at id v here).owed
