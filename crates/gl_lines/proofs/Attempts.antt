-- The draws of an attempt whose looks and end come at once: a commit line of a trace, performed or refused.
use Rattle.std.proofs.Common.{◌≡◌, ◌≢◌, ℕ, ◌+◌, ◌<◌, ◌≤◌, List, [], ◌∷◌, ◌++◌, length, refl, ap, subst, sym, ◌∙◌, inl, inr, arith, true, false, Bool, length-append, add-one}
use Rattle.std.specs.Prelude.{◌⊎◌, if◌then◌else◌, pos}
use Rattle.gl_model.specs.Entries.{Entry}
use Rattle.gl_model.specs.Form.{At, Draws, LookDraws, NumberDraws}
use Rattle.gl_model.specs.Records.{NumberOn}
use Rattle.gl_model.specs.Trace.{is_in, look_count}
use Rattle.gl_draws.specs.Draws.{Entered, Looked, Draw, draw, DrawAt}
use Rattle.gl_draws.specs.Ties.{BlockAt, HasLook, IsFor, IsKept, in_list, AreDrawn}
use Rattle.gl_lines.specs.Traced.{with_look, with_own, touches, with_attempt}
use Rattle.gl_draws.proofs.DrawPlaces.{draw_below}
use Rattle.gl_draws.proofs.DrawTies.{kept_push}
use Rattle.gl_draws.proofs.Pushes.{at_new, at_cases, at_within}

-- 1 where it is so, and else 0
abbrev one_if : Bool → ℕ
one_if b = if b then 1 else 0

module _ (t q p : ℕ) (e : Entry) where
  -- where a draw stands: it is an old one, the look, or the attempt's own
  one_of : (b c : Bool) (ds : List Draw) (k : ℕ) (f : Draw) → DrawAt (with_own b t p e (with_look c t q ds)) k f →
      DrawAt ds k f ⊎ (((c ≡ true) × (k ≡ length ds) × (f ≡ draw t q (Looked (pos 0))))
      ⊎ ((b ≡ true) × (k ≡ length ds + one_if c) × (f ≡ draw t p (Entered e))))
  one_of true true ds k f (inl a) = inr (inr (refl, a.0 ∙ sym (add-one (length ds)), a.1))
  one_of true true ds k f (inr (inl a)) = inr (inl (refl, a.0, a.1))
  one_of true true ds k f (inr (inr a)) = inl a
  one_of true false ds k f (inl a) = inr (inr (refl, (let i = a.0 in omega arith), a.1))
  one_of true false ds k f (inr a) = inl a
  one_of false true ds k f (inl a) = inr (inl (refl, a.0, a.1))
  one_of false true ds k f (inr a) = inl a
  one_of false false ds k f a = inl a

  -- each draw of the list keeps its number when the look and the own draw of an attempt come on top, if it has them
  stays : (b c : Bool) (ds : List Draw) (k : ℕ) (f : Draw) → DrawAt ds k f → DrawAt (with_own b t p e (with_look c t q ds)) k f
  stays true true ds k f a = inr (inr a)
  stays true false ds k f a = inr a
  stays false true ds k f a = inr a
  stays false false ds k f a = a

  -- a look that is drawn has the number that comes next, which is the count of the draws before
  look_at : (b c : Bool) (ds : List Draw) → c ≡ true
      → DrawAt (with_own b t p e (with_look c t q ds)) (length ds) (draw t q (Looked (pos 0)))
  look_at true true ds i = inr (inl (refl, refl))
  look_at true false ds i = absurd (cc)
  look_at false true ds i = inl (refl, refl)
  look_at false false ds i = absurd (cc)

  -- the attempt's own draw has the number behind its look, or the next one where it has no look
  own_at : (b c : Bool) (ds : List Draw) → b ≡ true
      → DrawAt (with_own b t p e (with_look c t q ds)) (length ds + one_if c) (draw t p (Entered e))
  own_at true true ds i = inl (add-one (length ds), refl)
  own_at true false ds i = inl ((omega arith), refl)
  own_at false c ds i = absurd (cc)

  -- with the attempt there is one draw more for its look, if it looks, and one for its end, if it looks or writes
  pub attempt_length : (a b : Bool) (ds : List Draw) → length (with_own (if a then true else b) t p e (with_look a t q ds))
      ≡ length ds + one_if a + (if a then 1 else if b then 1 else 0)
  attempt_length true b ds = omega arith
  attempt_length false true ds = omega arith
  attempt_length false false ds = omega arith

-- what the attempt's entry draws and has
pub record IsAttempt (draws : ℕ → List Draw) (e : Entry) (reads writes : List ℕ) : Type 0 where
  pub looks : (y k : ℕ) → LookDraws e y k → (is_in y reads ≡ true) × (k ≡ length (draws y))
  pub own : (y k : ℕ) → NumberDraws e y k → (touches reads writes y ≡ true) × (k ≡ length (draws y) + look_count reads y)
  pub look_there : (y : ℕ) → is_in y reads ≡ true → LookDraws e y (length (draws y)) × HasLook e y (length (draws y)) (pos 0)
  pub own_there : (y : ℕ) → touches reads writes y ≡ true → NumberDraws e y (length (draws y) + look_count reads y)
      × NumberOn e y (length (draws y) + look_count reads y)
  pub number : (y k : ℕ) → NumberOn e y k → NumberDraws e y k

module _ (draws : ℕ → List Draw) (t q p : ℕ) (e : Entry) (reads writes : List ℕ) (is : IsAttempt draws e reads writes) where
  abbrev new : ℕ → List Draw
  new = with_attempt t q p e reads writes draws

  abbrev look : Draw
  look = draw t q (Looked (pos 0))

  abbrev own : Draw
  own = draw t p (Entered e)

  -- a draw behind the attempt was one before, or it is that of a look, on a variable
  -- that the attempt reads, or that of its end, on one that it reads or writes
  pub attempt_cases : (y k : ℕ) (f : Draw) → DrawAt (with_attempt t q p e reads writes draws y) k f →
      DrawAt (draws y) k f ⊎ (((is_in y reads ≡ true) × (k ≡ length (draws y)) × (f ≡ draw t q (Looked (pos 0))))
      ⊎ ((touches reads writes y ≡ true) × (k ≡ length (draws y) + look_count reads y) × (f ≡ draw t p (Entered e))))
  attempt_cases y k f a = one_of t q p e (touches reads writes y) (is_in y reads) (draws y) k f a

  -- each draw that there was has its number still
  pub attempt_kept : (y k : ℕ) (f : Draw) → DrawAt (draws y) k f → DrawAt (with_attempt t q p e reads writes draws y) k f
  attempt_kept y k f a = stays t q p e (touches reads writes y) (is_in y reads) (draws y) k f a

  -- on each variable that the attempt reads or writes, its end is drawn with the next number, or the one after where it looks there first
  pub attempt_own : (y : ℕ) → touches reads writes y ≡ true
      → DrawAt (with_attempt t q p e reads writes draws y) (length (draws y) + look_count reads y) (draw t p (Entered e))
  attempt_own y i = own_at t q p e (touches reads writes y) (is_in y reads) (draws y) i

  -- an attempt that reads y draws the next number of y for its look
  attempt_look : (y : ℕ) → is_in y reads ≡ true
      → DrawAt (with_attempt t q p e reads writes draws y) (length (draws y)) (draw t q (Looked (pos 0)))
  attempt_look y i = look_at t q p e (touches reads writes y) (is_in y reads) (draws y) i

  -- another thread's draws stay tied to its list
  pub attempt_other : (u : ℕ) (es : List Entry) → u ≢ t → AreDrawn draws u es []
      → AreDrawn (with_attempt t q p e reads writes draws) u es []
  attempt_other u es apart k = record {
    kept = λ y n f a mine. elim (attempt_cases y n f a) [
      | inl old ↦ k.kept y n f old mine
      | inr added ↦ absurd (apart (elim added [
        | inl l ↦ sym mine ∙ ap (λ (z : Draw). z.thread) l.2
        | inr o ↦ sym mine
            ∙ ap (λ (z : Draw). z.thread) o.2
      ]))
    ];
    made = λ y n i f a b. let m = k.made y n i f a b in (m.0, attempt_kept y n m.0 m.1, m.2, m.3, m.4);
    in_flight = λ o c. absurd (let l = c.1 in omega arith);
    rise = k.rise;
  }

  module _ (es : List Entry) (k : AreDrawn draws t es []) (block : BlockAt (es ++ e ∷ []) (length es) p) where
    -- on a variable that is read the number of the look is not the entry's own
    not_own : (y : ℕ) → NumberOn e y (length (draws y)) → is_in y reads ≡ true → ⊥
    not_own y n i =
        let o = is.own y (length (draws y)) (is.number y (length (draws y)) n) in
        let one : look_count reads y ≡ 1 = rw i refl in
        let z = o.1 in omega arith

    -- the look of a variable that is read is kept in the list with the attempt's entry: it is for a look of that entry
    look_kept : (y : ℕ) → is_in y reads ≡ true → IsKept (es ++ e ∷ []) [] y (length (draws y)) look
    look_kept y i = let l = is.look_there y i in in_list (length es) e (at_new es e) (inl l.0) (l.1, λ n. not_own y n i) tt

    -- the own draw on a variable that is read or written is kept in the list with the attempt's entry, and is for that entry
    own_kept : (y : ℕ) → touches reads writes y ≡ true → IsKept (es ++ e ∷ []) [] y (length (draws y) + look_count reads y) own
    own_kept y i = let o = is.own_there y i in in_list (length es) e (at_new es e) (inr o.0) (refl, o.1) block

    -- each draw of thread t is kept in the list with the attempt's entry
    kept : (y n : ℕ) (f : Draw) → DrawAt (new y) n f → f.thread ≡ t → IsKept (es ++ e ∷ []) [] y n f
    kept y n f a mine = elim (attempt_cases y n f a) [
      | inl old ↦ kept_push es (e ∷ []) [] y n f (k.kept y n f old mine)
      | inr (inl l) ↦ subst (λ z. IsKept (es ++ e ∷ []) [] y n z) (sym l.2)
          (subst (λ z. IsKept (es ++ e ∷ []) [] y z look) (sym l.1) (look_kept y l.0))
      | inr (inr o) ↦ subst (λ z. IsKept (es ++ e ∷ []) [] y n z) (sym o.2)
          (subst (λ z. IsKept (es ++ e ∷ []) [] y z own) (sym o.1) (own_kept y o.0))
    ]

    -- thread t drew the number n on y, and the draw is kept in the list with the attempt's entry and is for the entry f
    Made : ℕ → ℕ → Entry → Type 0
    Made y n f = (g : Draw) × DrawAt (new y) n g × (g.thread ≡ t) × IsKept (es ++ e ∷ []) [] y n g × IsFor g.what f y n

    -- each number that the attempt's entry draws was drawn by thread t, in a draw that is kept and is for this entry
    made_new : (y n : ℕ) → Draws e y n → (g : Draw) × DrawAt (new y) n g × (g.thread ≡ t) × IsKept (es ++ e ∷ []) [] y n g
        × IsFor g.what e y n
    made_new y n (inl l) =
        let i = is.looks y n l in
        subst (λ z. (g : Draw) × DrawAt (new y) z g × (g.thread ≡ t) × IsKept (es ++ e ∷ []) [] y z g × IsFor g.what e y z) (sym i.1)
        (look, attempt_look y i.0, refl, look_kept y i.0, ((is.look_there y i.0).1, λ m. not_own y m i.0))
    made_new y n (inr o) =
        let i = is.own y n o in
        subst (λ z. (g : Draw) × DrawAt (new y) z g × (g.thread ≡ t) × IsKept (es ++ e ∷ []) [] y z g × IsFor g.what e y z) (sym i.1)
        (own, attempt_own y i.0, refl, own_kept y i.0, (refl, (is.own_there y i.0).1))

    -- each number that an entry of the longer list draws was drawn by thread t, in a draw that is kept and is for that entry
    made : (y n i : ℕ) (f : Entry) → At (es ++ e ∷ []) i f → Draws f y n → (g : Draw) × DrawAt (new y) n g × (g.thread ≡ t)
        × IsKept (es ++ e ∷ []) [] y n g × IsFor g.what f y n
    made y n i f a b = elim (at_cases es e f i a) [
      | inl old ↦ (let m = k.made y n i f old b in (m.0, attempt_kept y n m.0 m.1, m.2, kept_push es (e ∷ []) [] y n m.0 m.3, m.4))
      | inr added ↦ subst (λ z. (g : Draw) × DrawAt (new y) n g × (g.thread ≡ t) × IsKept (es ++ e ∷ []) [] y n g × IsFor g.what z y n)
          (sym added.1) (made_new y n (subst (λ z. Draws z y n) added.1 b))
    ]

    -- a number on y that the attempt's entry draws is no lower than the count of the draws that y had before
    above : (y n : ℕ) → Draws e y n → length (draws y) ≤ n
    above y n (inl l) = let i = (is.looks y n l).1 in omega arith
    above y n (inr o) = let i = (is.own y n o).1 in omega arith

    -- along the list with the attempt's entry the numbers of each variable rise
    rise : (y a b i j : ℕ) (f g : Entry) → At (es ++ e ∷ []) i f → At (es ++ e ∷ []) j g → i < j → Draws f y a → Draws g y b → a < b
    rise y a b i j f g at_i at_j lt c c' = elim (at_cases es e f i at_i) [
      | inl old ↦ elim (at_cases es e g j at_j) [
        | inl old' ↦ k.rise y a b i j f g old old' lt c c'
        | inr added ↦
            (let m = k.made y a i f old c in
            let l = draw_below (draws y) a m.0 m.1 in
            let u = above y b (subst (λ z. Draws z y b) added.1 c') in omega arith)
      ]
      | inr added ↦ absurd (let i' = added.0 in let w = at_within (es ++ e ∷ []) j g at_j in omega (arith, length-append es (e ∷ [])))
    ]

    -- with the attempt's entry in the list, the thread's draws are tied to the list, and no number is in flight
    pub attempt_drawn : AreDrawn (with_attempt t q p e reads writes draws) t (es ++ e ∷ []) []
    attempt_drawn = record { kept = kept; made = made; in_flight = λ o c. absurd (let l = c.1 in omega arith); rise = rise }
