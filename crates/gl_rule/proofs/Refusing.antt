-- What is said of refused attempts, at each kind of step.
use Rattle.std.proofs.Common.{◌≡◌, ℕ, zero, suc, ◌<◌, ◌≤◌, List, [], ◌∷◌, ◌++◌, length, sym, ap, subst, arith, ◌∙◌, inl, inr, Some, None}
use Rattle.std.specs.Prelude.{ℤ, Contains, Option}
use Rattle.gl_model.specs.declared.event.Stamp.{Stamp}
use Rattle.gl_model.specs.Entries.{Entry}
use Rattle.gl_model.specs.Records.{position_of}
use Rattle.gl_rule.specs.Machine.{ShelfCarries}
use Rattle.gl_draws.specs.Draws.{Draw, Among}
use Rattle.gl_draws.specs.Verdicts.{DrawsHold}
use Rattle.gl_draws.proofs.Refusing.{block_in}
use Rattle.gl_draws.proofs.Pushes.{at_cases}
use Rattle.gl_rule.specs.View.{Held, shelf, new_held}
use Rattle.gl_rule.specs.Values.{with_draw}
use Rattle.gl_rule.specs.Refusals.{DrawsBelow}

-- the draws of a row that was just taken stand below each tail seen since, as none was
pub commits_new : (draws : ℕ → List Draw) (k : ℕ) (y : _) → DrawsBelow draws (new_held k y)
commits_new draws k y = record { at = λ x before a n o d among has. absurd (let l = has.1 in omega arith) }

-- they stand below the tail, too, when it is seen
pub commits_tail : (log : List Stamp) (draws : ℕ → List Draw) (h g : Held) → ((x : ℕ) → DrawsHold log x (draws x)) → g.object ≡ h.object
    → g.drew ≡ h.drew → g.tails ≡ length log ∷ h.tails → DrawsBelow draws h → DrawsBelow draws g
commits_tail log draws h g all same drew tails c =
    record {
      at = λ x before a n o d among has. by x before a n (sym same ∙ o) (d ∙ ap (λ z. with_draw z before) drew) among
          (subst (λ l. Contains l n) tails has);
    }
  where
    inner : (x : ℕ) (before : List Draw) (a : Draw) (o : Option Draw) → draws x ≡ with_draw o before → Among before a → Among (draws x) a
    inner x before a None d among = subst (λ l. Among l a) (sym d) among
    inner x before a (Some z) d among = subst (λ l. Among l a) (sym d) (inr among)

    by : (x : ℕ) (before : List Draw) (a : Draw) (n : ℕ) → h.object ≡ suc x → draws x ≡ with_draw h.drew before → Among before a
        → Contains (length log ∷ h.tails) n → a.block < n
    by x before a n o d among (zero, l, e) = let same' : length log ≡ n = e
        in let q = block_in log x (draws x) a (all x) (inner x before a h.drew d among) in omega arith
    by x before a n o d among (suc i, l, e) = c.at x before a n o d among (i, omega arith, e)

-- and so they do whatever else of the object changes
pub commits_same : (draws : ℕ → List Draw) (h g : Held) → g.object ≡ h.object → g.drew ≡ h.drew → g.tails ≡ h.tails → DrawsBelow draws h
    → DrawsBelow draws g
commits_same draws h g same drew tails c =
    record {
      at = λ x before a n o d among has. c.at x before a n (sym same ∙ o) (d ∙ ap (λ z. with_draw z before) drew) among
          (subst (λ l. Contains l n) tails has);
    }

-- and below what was seen last, when the other tails are forgotten
pub commits_raised : (draws : ℕ → List Draw) (seen : ℕ) (h g : Held) → (n : ℕ) × Contains h.tails n → g.object ≡ h.object → g.drew ≡ h.drew
    → g.tails ≡ seen ∷ [] → ((n : ℕ) → Contains h.tails n → n ≤ seen) → DrawsBelow draws h → DrawsBelow draws g
commits_raised draws seen h g fresh same drew tails upto c = record {
  at = λ x before a n o d among has. by n a (subst (λ l. Contains l n) tails has)
      (c.at x before a fresh.0 (sym same ∙ o) (d ∙ ap (λ z. with_draw z before) drew) among fresh.1) (upto fresh.0 fresh.1);
}
  where
    by : (n : ℕ) (a : Draw) → Contains (seen ∷ []) n → a.block < fresh.0 → fresh.0 ≤ seen → a.block < n
    by n a (zero, l, e) lt le = let s : seen ≡ n = e in omega arith
    by n a (suc i, l, e) lt le = absurd (omega arith)

-- they do so still when a number is drawn on the object, on which none was drawn before
pub commits_drew : (draws draws' : ℕ → List Draw) (x : ℕ) (d : Draw) (h g : Held) → h.object ≡ suc x → draws' x ≡ d ∷ draws x → h.drew
    ≡ None → g.object ≡ h.object → g.drew ≡ Some d → g.tails ≡ h.tails → DrawsBelow draws h → DrawsBelow draws' g
commits_drew draws draws' x d h g is next none same drew tails c = record {
  at = λ z before a n o e among has.
      let zx : z ≡ x = (let q : suc z ≡ suc x = sym o ∙ same ∙ is in omega arith) in
      let cons : d ∷ draws x ≡ d ∷ before = sym next ∙ ap draws' (sym zx) ∙ e ∙ ap (λ y. with_draw y before) drew in
      let behind : draws x ≡ before = (cc) in
      c.at x before a n is (behind ∙ ap (λ y. with_draw y before) (sym none)) among (subst (λ l. Contains l n) tails has);
}

-- and when draws change, but not those of the object
pub commits_else : (draws draws' : ℕ → List Draw) (h : Held) → ((x : ℕ) → h.object ≡ suc x → draws' x ≡ draws x) → DrawsBelow draws h
    → DrawsBelow draws' h
commits_else draws draws' h same c = record { at = λ x before a n o d among has. c.at x before a n o (sym (same x o) ∙ d) among has }

-- and when an event is published while the object is held
pub commits_published : (log : List Stamp) (draws draws' : ℕ → List Draw) (h g : Held) → ((x : ℕ) → DrawsHold log x (draws x))
    → ((x : ℕ) (ds : List Draw) → h.object ≡ suc x → draws' x ≡ with_draw g.drew ds → draws x ≡ with_draw h.drew ds) → g.object ≡ h.object
    → g.tails ≡ suc (length log) ∷ h.tails → DrawsBelow draws h → DrawsBelow draws' g
commits_published log draws draws' h g all back same tails c =
    record {
      at = λ x before a n o d among has. by x before a n (sym same ∙ o) (back x before (sym same ∙ o) d) among
          (subst (λ l. Contains l n) tails has);
    }
  where
    inner : (x : ℕ) (before : List Draw) (a : Draw) (o : Option Draw) → draws x ≡ with_draw o before → Among before a → Among (draws x) a
    inner x before a None d among = subst (λ l. Among l a) (sym d) among
    inner x before a (Some z) d among = subst (λ l. Among l a) (sym d) (inr among)

    by : (x : ℕ) (before : List Draw) (a : Draw) (n : ℕ) → h.object ≡ suc x → draws x ≡ with_draw h.drew before → Among before a
        → Contains (suc (length log) ∷ h.tails) n → a.block < n
    by x before a n o d among (zero, l, e) = let same' : suc (length log) ≡ n = e
        in let q = block_in log x (draws x) a (all x) (inner x before a h.drew d among) in omega arith
    by x before a n o d among (suc i, l, e) = c.at x before a n o d among (i, omega arith, e)

-- the values of a list stay with an entry that is no event
pub carries_push : (values : ℕ → ℤ) (t : ℕ) (es : List Entry) (e : Entry) → position_of e ≡ None → ShelfCarries values (shelf t es)
    → ShelfCarries values (shelf t (es ++ e ∷ []))
carries_push values t es e none k i p f at is =
    elim (at_cases es e f i at) [
      | inl old ↦ k i p f old is
      | inr new ↦ absurd (let q : None ≡ Some p = sym none ∙ ap position_of (sym new.1) ∙ is in cc)
    ]
