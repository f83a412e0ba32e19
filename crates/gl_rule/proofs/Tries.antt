-- What passes read of the turns and of the stop word, as steps are made.
use Rattle.std.proofs.Common.{◌≡◌, ◌≢◌, ℕ, zero, suc, ◌≤◌, List, [], ◌∷◌, ◌++◌, length, refl, sym, ap, subst, arith, ◌∙◌, inl, inr, length-append, ◌⊎◌}
use Rattle.std.specs.Prelude.{Contains}
use Rattle.std.specs.List.{All}
use Rattle.std.proofs.lemmas.List.Elements.{All-nil, All-cons, All-head, All-tail, All-push, All-append}
use native.Mathlib.Decide.{ℕ_discrete}
use Rattle.gl_model.specs.Machine.{with_at}
use Rattle.gl_draws.proofs.DrawTies.{with_here, with_else}
use Rattle.gl_rule.specs.declared.slot.Slot.{Slot}
use Rattle.gl_rule.specs.Objects.{Board}
use Rattle.gl_rule.specs.View.{View, Shelf, Read, Busy, Taken, Hold, Stop, SetStop}
use Rattle.gl_rule.specs.Tries.{TryFits, TellsTaken, TriesFit, TriesHold}
use Rattle.gl_rule.proofs.Words.{SameTurns}
use Rattle.gl_rule.proofs.HeldLists.{all_map, in_cons, only_shelf, one_shelf}

module _ {X : Type 0} where
  -- what is in the first of two lists is in both of them joined
  pub in_front : (xs ys : List X) (x : X) → Contains xs x → Contains (xs ++ ys) x
  in_front [] ys x c = absurd (let l = c.1 in omega arith)
  in_front (z ∷ xs) ys x (zero, l, e) = (zero, omega arith, e)
  in_front (z ∷ xs) ys x (suc k, l, e) = in_cons z (xs ++ ys) x (in_front xs ys x (k, omega arith, e))

  -- what is in the second of two lists is in both of them joined
  pub in_back : (xs ys : List X) (x : X) → Contains ys x → Contains (xs ++ ys) x
  in_back [] ys x c = c
  in_back (z ∷ xs) ys x c = in_cons z (xs ++ ys) x (in_back xs ys x c)

  -- what is in a list with one element more is in the list, or is that element
  pub in_pushed : (xs : List X) (y x : X) → Contains (xs ++ y ∷ []) x → Contains xs x ⊎ (y ≡ x)
  in_pushed [] y x (zero, l, e) = inr e
  in_pushed [] y x (suc k, l, e) = absurd (omega arith)
  in_pushed (z ∷ xs) y x (zero, l, e) = inl (zero, omega arith, e)
  in_pushed (z ∷ xs) y x (suc k, l, e) = elim (in_pushed xs y x (k, omega arith, e)) [ inl c ↦ inl (in_cons z xs x c) | inr s ↦ inr s ]

  -- what holds of each that is in the list gives another fact of each
  pub all_in : (P Q : X → Type 0) (xs : List X) → ((x : X) → Contains xs x → P x → Q x) → All P xs → All Q xs
  all_in P Q [] f all = All-nil Q
  all_in P Q (x ∷ xs) f all = All-cons Q x xs (f x (zero, omega arith, refl) (All-head P x xs all))
      (all_in P Q xs (λ y c. f y (in_cons x xs y c)) (All-tail P x xs all))

-- what is said of the tries holds still where the turns and the stop word stay
pub tries_same : (b b' : Board) (stopped : ℕ) (takers : ℕ → List ℕ) → SameTurns b b' → b'.stop ≡ b.stop
    → TriesHold b.turn b.stop stopped takers → TriesHold b'.turn b'.stop stopped takers
tries_same b b' stopped takers turns stop h =
    record { named = λ k t near e. h.named k t near (sym (turns k near) ∙ e); word = stop ∙ h.word; least = h.least }

-- the tries of a pass that read nothing fit, where its threads took no turn
pub tries_none : (stopped : ℕ) (takers : ℕ → List ℕ) (shelves : List Shelf) → All (TellsTaken takers []) shelves
    → TriesFit stopped takers shelves []
tries_none stopped takers shelves taken =
    record { each = All-nil (TryFits stopped takers); taken = taken; others = λ s k by one c. absurd (let l = c.1 in omega arith) }

-- tries fit still when the one list changes, and its thread is the same
pub tries_moved : (stopped : ℕ) (takers : ℕ → List ℕ) (v : View) (s s' : Shelf) → v.shelves ≡ s ∷ [] → s'.thread ≡ s.thread
    → TriesFit stopped takers v.shelves v.reads → TriesFit stopped takers (s' ∷ []) v.reads
tries_moved stopped takers v s s' one same f = record {
  each = f.each;
  taken = one_shelf (TellsTaken takers v.reads) s'
      (λ k c. only_shelf (TellsTaken takers v.reads) v s one f.taken k (subst (λ t. Contains (takers k) t) same c));
  others = λ r k by e c z. (let first : s' ≡ r = first_same s' r e
      in f.others s k by one c (z ∙ ap (λ (a : Shelf). a.thread) (sym first) ∙ same));
}
  where
    first_same : (a c : Shelf) → a ∷ [] ≡ c ∷ [] → a ≡ c
    first_same a c e = cc

-- one more read fits, where it fits by itself and is no turn that was read as held by the pass itself
pub tries_saw : (stopped : ℕ) (takers : ℕ → List ℕ) (shelves : List Shelf) (reads : List Read) (r : Read) → TryFits stopped takers r
    → ((s : Shelf) (k by : ℕ) → shelves ≡ s ∷ [] → r ≡ Busy k by → by ≢ s.thread) → TriesFit stopped takers shelves reads
    → TriesFit stopped takers shelves (reads ++ r ∷ [])
tries_saw stopped takers shelves reads r fit apart f = record {
  each = All-push (TryFits stopped takers) reads r f.each fit;
  taken = all_map (TellsTaken takers reads) (TellsTaken takers (reads ++ r ∷ [])) shelves (λ s q k c. let a = q k c
      in (a.0, in_front reads (r ∷ []) (Taken k a.0) a.1)) f.taken;
  others = λ s k by one c. elim (in_pushed reads r (Busy k by) c) [ inl old ↦ f.others s k by one old | inr new ↦ apart s k by one new ];
}

-- a read that fits fits still once the stop word is no less and no taker is gone
try_grows : (stopped stopped' : ℕ) (takers takers' : ℕ → List ℕ) → stopped ≤ stopped' → stopped' ≤ 1
    → ((k t : ℕ) → Contains (takers k) t → Contains (takers' k) t) → (r : Read) → TryFits stopped takers r → TryFits stopped' takers' r
try_grows stopped stopped' takers takers' up few more (Busy k by) q = more k by q
try_grows stopped stopped' takers takers' up few more (Taken k y) q = tt
try_grows stopped stopped' takers takers' up few more (Hold k n) q = tt
try_grows stopped stopped' takers takers' up few more (Stop n) q = omega arith
try_grows stopped stopped' takers takers' up few more SetStop q = omega arith

-- more threads took turns, and the stop word rose: of this view's threads nobody took one
pub tries_grow : (stopped stopped' : ℕ) (takers takers' : ℕ → List ℕ) (shelves : List Shelf) (reads : List Read) → stopped ≤ stopped'
    → stopped' ≤ 1 → ((k t : ℕ) → Contains (takers k) t → Contains (takers' k) t)
    → ((s : Shelf) → Contains shelves s → (k : ℕ) → Contains (takers' k) s.thread → Contains (takers k) s.thread)
    → TriesFit stopped takers shelves reads → TriesFit stopped' takers' shelves reads
tries_grow stopped stopped' takers takers' shelves reads up few more none f = record {
  each = all_map (TryFits stopped takers) (TryFits stopped' takers') reads (try_grows stopped stopped' takers takers' up few more) f.each;
  taken = all_in (TellsTaken takers reads) (TellsTaken takers' reads) shelves (λ s has q k c. q k (none s has k c)) f.taken;
  others = f.others;
}

-- two seats' lists are put together, and what they read: where the first has no list, it read nothing
others_both : (xs ys : List Shelf) (before reads : List Read) (s : Shelf) → Contains ys s → (xs ≡ [] → before ≡ [])
    → ((a : Shelf) (k by : ℕ) → ys ≡ a ∷ [] → Contains reads (Busy k by) → by ≢ a.thread)
    → (a : Shelf) (k by : ℕ) → xs ++ ys ≡ a ∷ [] → Contains (before ++ reads) (Busy k by) → by ≢ a.thread
others_both [] ys before reads s has none g a k by one c = g a k by one (subst (λ l. Contains (l ++ reads) (Busy k by)) (none refl) c)
others_both (x ∷ xs) ys before reads s has none g a k by one c =
    absurd (let l = length-append xs ys in let n : suc (length (xs ++ ys)) ≡ 1 = ap length one in let q = has.1 in omega arith)

-- the reads of two joined passes fit the lists of both
pub tries_both : (stopped : ℕ) (takers : ℕ → List ℕ) (v u : View) (s : Shelf) → (v.shelves ≡ [] → v.reads ≡ []) → Contains u.shelves s
    → TriesFit stopped takers v.shelves v.reads → TriesFit stopped takers u.shelves u.reads
    → TriesFit stopped takers (v.shelves ++ u.shelves) (v.reads ++ u.reads)
tries_both stopped takers v u s none has f g = record {
  each = All-append (TryFits stopped takers) v.reads u.reads f.each g.each;
  taken = All-append (TellsTaken takers (v.reads ++ u.reads)) v.shelves u.shelves
      (all_map (TellsTaken takers v.reads) (TellsTaken takers (v.reads ++ u.reads)) v.shelves (λ a q k c. let y = q k c
      in (y.0, in_front v.reads u.reads (Taken k y.0) y.1)) f.taken)
      (all_map (TellsTaken takers u.reads) (TellsTaken takers (v.reads ++ u.reads)) u.shelves (λ a q k c. let y = q k c
      in (y.0, in_back v.reads u.reads (Taken k y.0) y.1)) g.taken);
  others = others_both v.shelves u.shelves v.reads u.reads s has none g.others;
}

-- thread t takes the turn of object k
module _ (takers : ℕ → List ℕ) (k t : ℕ) where
  abbrev pub taker : ℕ → List ℕ
  taker = with_at takers k (t ∷ takers k)

  -- each taker of an object is one still
  pub taker_more : (g u : ℕ) → Contains (takers g) u → Contains (taker g) u
  taker_more g u c = elim (ℕ_discrete g k) [
    | yes e ↦ subst (λ l. Contains l u) (sym (ap taker e ∙ with_here takers k (t ∷ takers k)))
        (in_cons t (takers k) u (subst (λ z. Contains (takers z) u) e c))
    | no ne ↦ subst (λ l. Contains l u) (sym (with_else takers k g (t ∷ takers k) ne)) c
  ]

  -- the thread t is a taker of k
  pub taker_here : Contains (taker k) t
  taker_here = subst (λ l. Contains l t) (sym (with_here takers k (t ∷ takers k))) (zero, omega arith, refl)

  -- a taker of an object was one before, or it is t and the object is k
  pub taker_cases : (g u : ℕ) → Contains (taker g) u → Contains (takers g) u ⊎ ((g ≡ k) × (t ≡ u))
  taker_cases g u c = elim (ℕ_discrete g k) [
    | yes e ↦ here e (subst (λ l. Contains l u) (ap taker e ∙ with_here takers k (t ∷ takers k)) c)
    | no ne ↦ inl (subst (λ l. Contains l u) (with_else takers k g (t ∷ takers k) ne) c)
  ]
    where
      here : g ≡ k → Contains (t ∷ takers k) u → Contains (takers g) u ⊎ ((g ≡ k) × (t ≡ u))
      here e (zero, l, s) = inr (e, s)
      here e (suc i, l, s) = inl (subst (λ z. Contains (takers z) u) (sym e) (i, omega arith, s))

-- then its own pass says so
pub tries_took : (stopped : ℕ) (takers : ℕ → List ℕ) (v : View) (s : Shelf) (k : ℕ) (y : Slot) → v.shelves ≡ s ∷ [] → stopped ≤ 1
    → TriesFit stopped takers v.shelves v.reads → TriesFit stopped (taker takers k s.thread) v.shelves (v.reads ++ Taken k y ∷ [])
tries_took stopped takers v s k y one few f =
    let new : ℕ → List ℕ = taker takers k s.thread in
    let reads = v.reads ++ Taken k y ∷ [] in record {
      each = All-push (TryFits stopped new) v.reads (Taken k y)
          (all_map (TryFits stopped takers) (TryFits stopped new) v.reads
          (try_grows stopped stopped takers new (omega arith) few (taker_more takers k s.thread)) f.each) tt;
      taken = subst (λ l. All (TellsTaken new reads) l) (sym one)
          (one_shelf (TellsTaken new reads) s (λ g c. elim (taker_cases takers k s.thread g s.thread c) [
            | inl old ↦ (let a = only_shelf (TellsTaken takers v.reads) v s one f.taken g old
                in (a.0, in_front v.reads (Taken k y ∷ []) (Taken g a.0) a.1))
            | inr hit ↦ (
              y,
              subst (λ z. Contains reads (Taken z y)) (sym hit.0)
                  (in_back v.reads (Taken k y ∷ []) (Taken k y) (zero, omega arith, refl)),
            )
          ]));
      others = λ r g by is c. elim (in_pushed v.reads (Taken k y) (Busy g by) c) [
        | inl old ↦ f.others r g by is old
        | inr hit ↦ absurd (cc)
      ];
    }
