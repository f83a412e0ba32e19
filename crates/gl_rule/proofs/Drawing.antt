-- The parts of the rule when a number is drawn.
use Rattle.std.proofs.Common.{◌≡◌, ◌≢◌, ℕ, zero, suc, ◌+◌, ◌^◌, ◌<◌, ◌≤◌, ◌==◌, List, [], ◌∷◌, ◌++◌, length, sym, refl, ap, subst, arith, ◌∙◌, false, true, Bool, inl, inr, Some, eq-eqb, ne_eqb}
use Rattle.std.specs.Prelude.{ℤ, Contains, Option, ◌⊎◌}
use native.Mathlib.Decide.{ℕ_discrete}
use Rattle.gl_model.specs.declared.event.Stamp.{Stamp}
use Rattle.gl_model.specs.declared.limits.TheConstants.{THREADS}
use Rattle.gl_model.specs.Entries.{Entry, Plain}
use Rattle.gl_model.specs.Form.{At}
use Rattle.gl_model.specs.Machine.{with_at}
use Rattle.gl_draws.specs.Draws.{Entered, What, Draw, draw, DrawAt, Among}
use Rattle.gl_draws.specs.Ties.{Drawn, AreDrawn, IsKept, in_list, in_flight, IsStill, count_by, last_position}
use Rattle.gl_draws.specs.Verdicts.{DrawsHold}
use Rattle.gl_draws.proofs.DrawCounts.{count_own, count_other, counted_plain}
use Rattle.gl_draws.proofs.DrawPlaces.{draw_below}
use Rattle.gl_draws.proofs.DrawTies.{with_here, with_else, draw_kept, draw_new, draw_cases, drawn_other, drawn_mark}
use Rattle.gl_rule.specs.View.{Shelf, shelf}
use Rattle.gl_rule.specs.Numbers.{NumbersHold, ShelfDraws, count_on}
use Rattle.gl_rule.proofs.HeldLists.{in_cons}

-- d is the new draw of x
module _ (draws : ℕ → List Draw) (x : ℕ) (d : Draw) where
  abbrev next : ℕ → List Draw
  next = with_at draws x (d ∷ draws x)

  -- the draws of x have one more
  pub next_here : next x ≡ d ∷ draws x
  next_here = with_here draws x (d ∷ draws x)

  -- those of another variable stay
  pub next_else : (y : ℕ) → y ≢ x → next y ≡ draws y
  next_else y other = with_else draws x y (d ∷ draws x) other

  -- another thread's count stays
  pub count_same : (t y : ℕ) → d.thread ≢ t → count_by t (next y) ≡ count_by t (draws y)
  count_same t y other = elim (ℕ_discrete y x) [
    | yes e ↦ ap (λ z. count_by t (next z)) e ∙ ap (count_by t) next_here ∙ count_other t d (draws x) other
        ∙ ap (λ z. count_by t (draws z)) (sym e)
    | no ne ↦ ap (count_by t) (next_else y ne)
  ]

  -- the thread's own grows by one at most
  pub count_up : (y : ℕ) → count_by d.thread (next y) ≤ suc (count_by d.thread (draws y))
  count_up y = elim (ℕ_discrete y x) [
    | yes e ↦ (let a = ap (λ z. count_by d.thread (next z)) e ∙ ap (count_by d.thread) next_here ∙ count_own d.thread d (draws x) refl
        in let b = ap (λ z. count_by d.thread (draws z)) e in omega arith)
    | no ne ↦ (let a = ap (count_by d.thread) (next_else y ne) in omega arith)
  ]

  -- on another variable all counts stay
  pub count_elsewhere : (t y : ℕ) → y ≢ x → count_by t (next y) ≡ count_by t (draws y)
  count_elsewhere t y ne = ap (count_by t) (next_else y ne)

  -- where the counter of x alone goes up, by one, the counters count the draws with the new one
  pub numbers_hold : (count count' : ℕ → ℕ) → count' (suc x) ≡ suc (count (suc x)) → ((y : ℕ) → y ≢ x → count' (suc y) ≡ count (suc y))
      → d.thread < THREADS → ((y : ℕ) → count_by d.thread (draws y) < 2 ^ 51 + 2) → NumbersHold count draws → NumbersHold count' next
  numbers_hold count count' here else' named short p = record {
    counts = λ y near. elim (ℕ_discrete y x) [
      | yes e ↦ ap (λ z. count' (suc z)) e ∙ here
          ∙ ap suc (sym (ap (λ z. count (suc z)) e) ∙ p.counts y near ∙ ap (λ z. length (draws z)) e) ∙ sym (ap length next_here)
          ∙ ap (λ z. length (next z)) (sym e)
      | no ne ↦ else' y ne ∙ p.counts y near ∙ sym (ap length (next_else y ne))
    ];
    threads = λ y e among. elim (ℕ_discrete y x) [
      | yes is ↦ from e (subst (λ l. Among l e) (ap next is ∙ next_here) among)
      | no ne ↦ p.threads y e (subst (λ l. Among l e) (next_else y ne) among)
    ];
    few = λ y t. elim (ℕ_discrete d.thread t) [
      | yes is ↦ (let a = count_up y in let b = short y in let c : count_by d.thread (next y) ≤ 2 ^ 51 + 2 = omega arith
          in subst (λ u. count_by u (next y) ≤ 2 ^ 51 + 2) is c)
      | no ne ↦ (let a = count_same t y ne in let b = p.few y t in omega arith)
    ];
  }
    where
      from : (e : Draw) → Among (d ∷ draws x) e → e.thread < THREADS
      from e (inl same) = subst (λ (z : Draw). z.thread < THREADS) (sym same) named
      from e (inr among) = p.threads x e among

  -- another thread's numbers stay
  pub numbers_other : (r : Shelf) (drawn : List Drawn) → d.thread ≢ r.thread → ShelfDraws draws drawn r → ShelfDraws next drawn r
  numbers_other r drawn other k = record {
    numbers = drawn_other draws x d r.thread r.marked drawn other k.numbers;
    few = λ y. let c =
        count_same r.thread y other in let g = k.few y in omega arith;
    two = k.two;
    above = k.above;
    runs = k.runs;
  }

  -- what is said of the draws is right with the new one, where it is so of those of x
  pub verdicts_next : (log : List Stamp) → DrawsHold log x (d ∷ draws x) → ((y : ℕ) → DrawsHold log y (draws y)) → (y : ℕ)
      → DrawsHold log y (next y)
  verdicts_next log new all y = elim (ℕ_discrete y x) [
    | yes e ↦ subst (λ l. DrawsHold log y l) (sym (ap next e ∙ next_here)) (subst (λ z. DrawsHold log z (d ∷ draws x)) (sym e) new)
    | no ne ↦ subst (λ l. DrawsHold log y l) (sym (next_else y ne)) (all y)
  ]

-- with a plain access drawn and in its list, each draw of its thread has its entry there
pub numbers_plain : (draws : ℕ → List Draw) (drawn : List Drawn) (s : Shelf) (x p : ℕ) (write raised : Bool) (value : ℤ) → drawn ≡ []
    → last_position s.marked ≡ Some p → ShelfDraws draws drawn s
    → ShelfDraws (with_at draws x (draw s.thread p (Entered (Plain x (length (draws x)) false write value raised)) ∷ draws x)) drawn
    (shelf s.thread (s.marked ++ Plain x (length (draws x)) false write value raised ∷ []))
numbers_plain draws drawn s x p write raised value none last k = record {
  numbers = drawn_mark draws x s.thread p s.marked drawn write raised value last k.numbers;
  few = λ y. let c = count_up draws x (draw s.thread p (Entered (Plain x (length (draws x)) false write value raised))) y
      in let g = k.few y in let up = counted_plain s.marked x (length (draws x)) false write raised value in omega arith;
  two = k.two;
  above = λ y n m i e o at dr has. absurd (nothing has);
  runs = λ o has. absurd (nothing has);
}
  where
    nothing : {o : Drawn} → Contains drawn o → ⊥
    nothing c = let l = c.1 in let z : length drawn ≡ 0 = ap length none in omega arith

-- a draw on x that is put last makes one draw more on x
count_on_push : (x : ℕ) (drawn : List Drawn) (o : Drawn) → o.var ≡ x → count_on x (drawn ++ o ∷ []) ≡ suc (count_on x drawn)
count_on_push x [] o e = let b : (o.var == x) ≡ true = eq-eqb o.var x e in rw b refl
count_on_push x (r ∷ rs) o e = here (ℕ_discrete r.var x) (count_on_push x rs o e)
  where
    here : Dec (r.var ≡ x) → count_on x (rs ++ o ∷ []) ≡ suc (count_on x rs) → count_on x (r ∷ rs ++ o ∷ []) ≡ suc (count_on x (r ∷ rs))
    here (yes s) q = let b : (r.var == x) ≡ true = eq-eqb r.var x s in rw b (ap suc q)
    here (no s) q = let b : (r.var == x) ≡ false = ne_eqb r.var x s in rw b q

-- a draw on another variable that is put last leaves the count on x
count_on_else : (x : ℕ) (drawn : List Drawn) (o : Drawn) → o.var ≢ x → count_on x (drawn ++ o ∷ []) ≡ count_on x drawn
count_on_else x [] o e = let b : (o.var == x) ≡ false = ne_eqb o.var x e in rw b refl
count_on_else x (r ∷ rs) o e = here (ℕ_discrete r.var x) (count_on_else x rs o e)
  where
    here : Dec (r.var ≡ x) → count_on x (rs ++ o ∷ []) ≡ count_on x rs → count_on x (r ∷ rs ++ o ∷ []) ≡ count_on x (r ∷ rs)
    here (yes s) q = let b : (r.var == x) ≡ true = eq-eqb r.var x s in rw b (ap suc q)
    here (no s) q = let b : (r.var == x) ≡ false = ne_eqb r.var x s in rw b q

-- what is among the draws is among them still when one is put last
in_more : (os : List Drawn) (o r : Drawn) → Contains os r → Contains (os ++ o ∷ []) r
in_more [] o r c = absurd (let l = c.1 in omega arith)
in_more (a ∷ os) o r (zero, l, e) = (zero, omega arith, e)
in_more (a ∷ os) o r (suc k, l, e) = in_cons a (os ++ o ∷ []) r (in_more os o r (k, omega arith, e))

-- a draw that is put last is among the draws
in_last : (os : List Drawn) (o : Drawn) → Contains (os ++ o ∷ []) o
in_last [] o = (zero, omega arith, refl)
in_last (a ∷ os) o = in_cons a (os ++ o ∷ []) o (in_last os o)

-- what is among the draws with one put last was among them before, or is that one
more_cases : (os : List Drawn) (o r : Drawn) → Contains (os ++ o ∷ []) r → Contains os r ⊎ (r ≡ o)
more_cases [] o r (zero, l, e) = inr (sym e)
more_cases [] o r (suc k, l, e) = absurd (omega arith)
more_cases (a ∷ os) o r (zero, l, e) = inl (zero, omega arith, e)
more_cases (a ∷ os) o r (suc k, l, e) = elim (more_cases os o r (k, omega arith, e)) [
  | inl c ↦ inl (in_cons a os r c)
  | inr same ↦ inr same
]

-- one's own numbers where a number waits for its entry
module _ (draws : ℕ → List Draw) (drawn : List Drawn) (s : Shelf) (x p : ℕ) (w : What) (look : Option ℤ) (still : IsStill w look)
    (k : ShelfDraws draws drawn s) where
  abbrev d : Draw
  d = draw s.thread p w

  abbrev o : Drawn
  o = record { var = x; nth = length (draws x); look = look }

  -- what a draw is for is still there once one number more waits
  kept_more : (y n : ℕ) (f : Draw) → IsKept s.marked drawn y n f → IsKept s.marked (drawn ++ o ∷ []) y n f
  kept_more y n f (in_list i e a b c g) = in_list i e a b c g
  kept_more y n f (in_flight l c st) = in_flight l (in_more drawn o (record { var = y; nth = n; look = l }) c) st

  -- with the new draw, and its number among those that wait, the thread's draws are tied to its list
  drawn_open : AreDrawn (with_at draws x (d ∷ draws x)) s.thread s.marked (drawn ++ o ∷ [])
  drawn_open = record {
    kept = λ y n f a own. elim (draw_cases draws x d y n f a) [
      | inl old ↦ kept_more y n f (k.numbers.kept y n f old own)
      | inr new ↦ fresh y n f new
    ];
    made = λ y n i e a b. let m = k.numbers.made y n i e a b in (m.0, draw_kept draws x d y n m.0 m.1, m.2, kept_more y n m.0 m.3, m.4);
    in_flight = λ r c. elim (more_cases drawn o r c) [
      | inl old ↦ (let m = k.numbers.in_flight r old in (m.0, draw_kept draws x d r.var r.nth m.0 m.1, m.2, m.3))
      | inr same ↦ subst (λ (z : Drawn). (f : Draw) × DrawAt (with_at draws x (d ∷ draws x) z.var) z.nth f × (f.thread ≡ s.thread)
          × IsStill f.what z.look) (sym same) (d, draw_new draws x d, refl, still)
    ];
    rise = k.numbers.rise;
  }
    where
      fresh : (y n : ℕ) (f : Draw) → (y ≡ x) × (n ≡ length (draws x)) × (f ≡ d) → IsKept s.marked (drawn ++ o ∷ []) y n f
      fresh y n f e = subst (λ a. IsKept s.marked (drawn ++ o ∷ []) a n f) (sym e.0)
          (subst (λ a. IsKept s.marked (drawn ++ o ∷ []) x a f) (sym e.1)
          (subst (λ a. IsKept s.marked (drawn ++ o ∷ []) x (length (draws x)) a) (sym e.2) (in_flight look (in_last drawn o) still)))

  -- a number more waits for its entry
  pub numbers_open : count_on x drawn ≤ 1 → last_position s.marked ≡ Some p
      → ((i : ℕ) (e : Entry) → At s.marked i e → Rattle.gl_model.specs.Form.IsEnd e → ⊥)
      → ShelfDraws (with_at draws x (d ∷ draws x)) (drawn ++ o ∷ []) s
  numbers_open room last goes_on = record {
    numbers = drawn_open;
    few = λ y. elim (ℕ_discrete x y) [
      | yes e ↦ (let a = count_up draws x d y in let b = k.few y in let c = count_on_push y drawn o e in omega arith)
      | no ne ↦ (let a = count_elsewhere draws x d s.thread y (λ z. ne (sym z)) in let b = k.few y in let c = count_on_else y drawn o ne
          in omega arith)
    ];
    two = λ y. elim (ℕ_discrete x y) [
      | yes e ↦ (let c = count_on_push y drawn o e in let q : count_on y drawn ≤ 1 = subst (λ z. count_on z drawn ≤ 1) e room
          in omega arith)
      | no ne ↦ (let c = count_on_else y drawn o ne in let b = k.two y in omega arith)
    ];
    above = λ y n m i e l at dr has. elim (more_cases drawn o (record { var = y; nth = m; look = l }) has) [
      | inl old ↦ k.above y n m i e l at dr old
      | inr same ↦
          (let v : y ≡ x = ap (λ (z : Drawn). z.var) same in
          let q : m ≡ length (draws x) = ap (λ (z : Drawn). z.nth) same in
          let g = k.numbers.made y n i e at dr in
          let b : n < length (draws y) = draw_below (draws y) n g.0 g.1 in
          let c : length (draws y) ≡ length (draws x) = ap (λ z. length (draws z)) v in omega arith)
    ];
    runs = λ r has. (p, last, goes_on);
  }
