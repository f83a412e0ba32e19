-- What a look makes of the attempt.
use Rattle.std.proofs.Common.{◌≡◌, ◌≢◌, ℕ, zero, suc, ◌+◌, ◌<◌, ◌==◌, List, [], ◌∷◌, ◌++◌, map, true, false, Bool, refl, sym, ap, ◌∙◌, subst, arith, Some, None, inl, inr, eq-eqb, ne_eqb}
use Rattle.std.specs.Prelude.{Contains, Option, ℤ, if◌then◌else◌}
use Rattle.std.proofs.lemmas.List.Elements.{Contains-push_cases, Contains-append_left, Contains-append_right}
use native.Mathlib.Decide.{ℕ_discrete}
use Rattle.gl_model.specs.declared.limits.TheConstants.{TX_VARIABLES}
use Rattle.gl_model.specs.declared.tx.Look.{Look}
use Rattle.gl_model.specs.declared.tx.Pair.{Pair}
use Rattle.gl_model.specs.Rising.{with_part}
use Rattle.gl_draws.specs.Ties.{Drawn}
use Rattle.gl_rule.specs.Numbers.{count_on}
use Rattle.gl_table.specs.PassView.{Own, PassView}
use Rattle.gl_txn.specs.Attempts.{Attempting, written, looked, size, with_look}
use Rattle.gl_txn.specs.Looked.{IsLookAt, drawn_of}
use Rattle.gl_txn.specs.Reading.{IsRead, ReadBy, HasLooked, LooksBy}
use Rattle.gl_txn.specs.Trying.{Draws}
use Rattle.gl_txn.proofs.Sizes.{of_look}
use Rattle.gl_model.proofs.PutParts.{with_new, with_first, with_old, not_found}

-- no number on x waits where none is among them
count_none : (x : ℕ) (drawn : List Drawn) → ((o : Drawn) → Contains drawn o → o.var ≢ x) → count_on x drawn ≡ 0
count_none x [] none = refl
count_none x (o ∷ os) none = let b : (o.var == x) ≡ false = ne_eqb o.var x (none o (0, omega arith, refl))
    in rw b (count_none x os (λ q c. none q (suc c.0, (let l = c.1 in omega arith), c.2)))

-- one draw more raises the count of its variable by one, and no other's
count_push : (y : ℕ) (drawn : List Drawn) (o : Drawn) → count_on y (drawn ++ o ∷ []) ≡ count_on y drawn + (if o.var == y then 1 else 0)
count_push y [] o = by_bool (o.var == y)
  where
    by_bool : (b : Bool) → (if b then suc 0 else 0) ≡ 0 + (if b then 1 else 0)
    by_bool true = refl
    by_bool false = refl
count_push y (q ∷ drawn) o = by_bool (q.var == y) (count_push y drawn o)
  where
    by_bool : (b : Bool) → count_on y (drawn ++ o ∷ []) ≡ count_on y drawn + (if o.var == y then 1 else 0)
        → (if b then suc (count_on y (drawn ++ o ∷ [])) else count_on y (drawn ++ o ∷ []))
        ≡ (if b then suc (count_on y drawn) else count_on y drawn) + (if o.var == y then 1 else 0)
    by_bool true e = omega arith
    by_bool false e = e

-- draws that are equal have equal variables, numbers and looks
drawn_same : (a b : Drawn) → a ≡ b → (a.var ≡ b.var) × (a.nth ≡ b.nth) × (a.look ≡ b.look)
drawn_same a b e = (ap (λ (o : Drawn). o.var) e, ap (λ (o : Drawn). o.nth) e, ap (λ (o : Drawn). o.look) e)

-- values that are equal as options are equal
some_value : (a b : ℤ) → Some a ≡ Some b → a ≡ b
some_value a b e = cc

-- the variable of a look is among those of the looks
key_of : (x : ℕ) (ls : List Look) (m : Look) → Contains ls m → m.var ≡ x → Contains (map of_look ls) x
key_of x [] m c same = absurd (let n = c.1 in omega arith)
key_of x (k ∷ ls) m (zero, n, is) same = (0, omega arith, ap of_look is ∙ same)
key_of x (k ∷ ls) m (suc i, n, is) same = let r = key_of x ls m (i, omega arith, is) same in (suc r.0, (let s = r.1 in omega arith), r.2)

-- where no number on x waits, the numbers of the looks go on to be those that wait, with one more
module _ (a : Attempting) (o : Own) (d : Draws a o) (l : Look) (out : looked a l.var ≡ None) where
  -- no number on the look's variable waits
  none_on : (q : Drawn) → Contains o.drawn q → q.var ≢ l.var
  none_on q c e = by_look q.look refl
    where
      by_look : (w : Option ℤ) → q.look ≡ w → ⊥
      by_look None z = d.ends q.var q.nth (subst (λ (w : Option ℤ). Contains o.drawn (record { var = q.var; nth = q.nth; look = w })) z c)
      by_look (Some v) z =
          let has = (d.looks q.var q.nth v).0 (subst (λ (w : Option ℤ). Contains o.drawn (record { var = q.var; nth = q.nth; look = w })) z
          c) in
          not_found of_look l.var a.looks out (key_of l.var a.looks (record { var = q.var; value = v; nth = q.nth }) has e)

  -- with the new look's number, those that wait are the numbers of the attempt's looks with that one, at most one a variable
  pub draws_more : Draws (with_look l.var l.value l.nth a) (record o { drawn = o.drawn ++ drawn_of l ∷ [] })
  draws_more = record {
    looks = λ y k value. (
      (λ c. elim (Contains-push_cases o.drawn (drawn_of l) (record { var = y; nth = k; look = Some value }) c) [
        | inl old ↦ with_old of_look l a.looks (record { var = y; value = value; nth = k }) (not_found of_look l.var a.looks out)
            ((d.looks y k value).0 old)
        | inr new ↦ (let s = drawn_same (record { var = y; nth = k; look = Some value }) (drawn_of l) (sym new)
            in let v = some_value value l.value s.2 in
            subst (λ (m : Look). Contains (with_part of_look l a.looks) m)
            (look_same (record { var = y; value = value; nth = k }) s.0 v s.1) (with_first of_look l a.looks))
      ]),
      (λ c. elim (with_new of_look l a.looks (record { var = y; value = value; nth = k }) c) [
        | inl new ↦ subst (λ (q : Drawn). Contains (o.drawn ++ drawn_of l ∷ []) q) (ap drawn_of new)
            (Contains-append_right o.drawn (drawn_of l ∷ []) (drawn_of l) (0, omega arith, refl))
        | inr old ↦ Contains-append_left o.drawn (drawn_of l ∷ []) (record { var = y; nth = k; look = Some value })
            ((d.looks y k value).1 old)
      ]),
    );
    ends = λ y k c. elim (Contains-push_cases o.drawn (drawn_of l) (record { var = y; nth = k; look = None }) c) [
      | inl old ↦ d.ends y k old
      | inr new ↦ (let s = drawn_same (record { var = y; nth = k; look = None }) (drawn_of l) (sym new) in let z : None
          ≡ Some l.value = s.2 in cc)
    ];
    each = λ y. elim (ℕ_discrete l.var y) [
      | yes same ↦ (let none : count_on y o.drawn ≡ 0 = count_none y o.drawn (λ q c e. none_on q c (e ∙ sym same))
          in let more = count_push y o.drawn (drawn_of l) in let b : (l.var == y) ≡ true = eq-eqb l.var y same in let m = rw b at more
          in omega arith)
      | no other ↦ (let few = d.each y in let more = count_push y o.drawn (drawn_of l) in let b : (l.var == y)
          ≡ false = ne_eqb l.var y other in let m = rw b at more in omega arith)
    ];
  }
    where
      look_same : (m : Look) → m.var ≡ l.var → m.value ≡ l.value → m.nth ≡ l.nth → l ≡ m
      look_same m e f g = sym (ap (λ x. record m { var = x }) e ∙ ap (λ v. record m { var = l.var; value = v }) f
          ∙ ap (λ n. record m { var = l.var; value = l.value; nth = n }) g)

-- a new look is what a read answers
pub is_read : (x : ℕ) (l : Look) (a b : Attempting) (p q : PassView) → written a x ≡ None → looked a x ≡ None → IsLookAt x l p q → b
    ≡ with_look l.var l.value l.nth a → Draws a p.own → size a < TX_VARIABLES → IsRead x l.value a p.own b q.own
is_read x l a b p q no_write no_look at more draws small =
    subst (λ (w : Option Pair). ReadBy w (looked a x) x l.value a p.own b q.own) (sym no_write)
    (subst (λ (k : Option Look). ReadBy None k x l.value a p.own b q.own) (sym no_look) (
      l.nth,
      more ∙ ap (λ y. with_look y l.value l.nth a) at.1,
      own,
      at_own
          ∙ ap (λ y. record p.own { drawn = p.own.drawn ++ record { var = y; nth = l.nth; look = Some l.value } ∷ [] }) at.1,
      small,
    ))
  where
    at_own : q.own ≡ record p.own { drawn = p.own.drawn ++ drawn_of l ∷ [] }
    at_own = ap (λ (r : PassView). r.own) at.3

    own : Draws b q.own
    own = subst (λ (o : Own). Draws b o) (sym at_own)
        (subst (λ (c : Attempting). Draws c (record p.own { drawn = p.own.drawn ++ drawn_of l ∷ [] })) (sym more)
        (draws_more a p.own draws l (ap (looked a) at.1 ∙ no_look)))

-- a look at a variable that the attempt neither wrote nor looked at is a look of the attempt
pub has_looked : (x : ℕ) (l : Look) (a : Attempting) (p q : PassView) → written a x ≡ None → looked a x ≡ None → IsLookAt x l p q
    → HasLooked a x l.value p q
has_looked x l a p q no_write no_look at =
    subst (λ (w : Option Pair). LooksBy w (looked a x) x l.value p q) (sym no_write)
    (subst (λ (k : Option Look). LooksBy None k x l.value p q) (sym no_look) (
      at.0,
      at.2,
      at.3 ∙ ap (λ (o : Own). record p {
        own = o;
        reads = p.reads
            ++ Rattle.gl_rule.specs.View.Taken (suc x) (Rattle.gl_rule.specs.declared.slot.Slot.TheVariants.Row at.0) ∷ [];
        moves = Rattle.gl_rule.specs.View.moved 5 p.moves;
      })
          (sym (ap (λ (r : PassView). r.own) at.3)),
    ))

-- no number waits on a variable that the attempt did not look at
pub none_waits : (a : Attempting) (o : Own) → Draws a o → (x : ℕ) → looked a x ≡ None → count_on x o.drawn ≡ 0
none_waits a o d x out = count_none x o.drawn
    (λ q c. none_on a o d (record { var = x; value = Rattle.std.specs.Prelude.pos 0; nth = 0 }) out q c)
