-- A right to repeat a write: the write is the variable's last one, and the thread has made no event since.
use Rattle.std.proofs.Common.{◌≡◌, ℕ, zero, suc, ◌<◌, ◌≤◌, List, [], ◌∷◌, length, take, sym, refl, ap, subst, arith, ◌∙◌, inl, inr, Some, None, true, false, Bool}
use Rattle.std.specs.Prelude.{ℤ, ◌⊎◌, Option, slice_get}
use native.Mathlib.Decide.{ℕ_discrete}
use Rattle.gl_model.specs.declared.event.Stamp.{Stamp}
use Rattle.gl_model.specs.Edges.{EventAt}
use Rattle.gl_model.specs.Entries.{Entry, Sync, Commit, Plain, Abort, Trim, Over}
use Rattle.gl_model.specs.Form.{At, Draws, GivesRight, HasRight}
use Rattle.gl_model.specs.Records.{position_of}
use Rattle.gl_draws.specs.Draws.{What, Entered, Looked, Open, Draw, DrawAt, last_write, is_write, writes_var}
use Rattle.gl_draws.specs.Events.{AreEvents}
use Rattle.gl_model.specs.Records.{IsPerformed}
use Rattle.gl_draws.specs.Repeated.{IsCalm, IsOwnLast}
use Rattle.gl_draws.specs.Ties.{Drawn, AreDrawn, IsKept, in_list, in_flight, IsFor, IsInBlock, IsStill, BlockAt, last_position, or_else}
use Rattle.gl_draws.specs.Verdicts.{DrawsHold}
use Rattle.gl_draws.proofs.DrawEntries.{own_for}
use Rattle.gl_draws.proofs.DrawPlaces.{one_draw, draw_among, draw_below}
use Rattle.gl_draws.proofs.EventTies.{last_own}
use Rattle.gl_draws.proofs.LastOnes.{write_cases}
use Rattle.gl_draws.proofs.Pushes.{at_within}
use Rattle.gl_draws.proofs.RepeatLaw.{none_behind}
use Rattle.gl_draws.proofs.RaceLaw.{entry_of_write}

-- the last write has the greatest number
top_write : (x : ℕ) (ds : List Draw) (w : Draw) → last_write x ds ≡ Some w → (n : ℕ) × DrawAt ds n w
    × ((j : ℕ) (b : Draw) → DrawAt ds j b → is_write x b.what ≡ true → j ≤ n)
top_write x [] w e = absurd (cc)
top_write x (d ∷ ds) w e = here (is_write x d.what) refl (λ q. top_write x ds w q)
  where
    top : (j : ℕ) (b : Draw) → DrawAt (d ∷ ds) j b → j ≤ length ds
    top j b (inl a) = let z = a.0 in omega arith
    top j b (inr a) = let l = draw_below ds j b a in omega arith

    here : (q : Bool) → is_write x d.what ≡ q
        → (last_write x ds ≡ Some w → (n : ℕ) × DrawAt ds n w × ((j : ℕ) (b : Draw) → DrawAt ds j b → is_write x b.what ≡ true → j ≤ n))
        → (n : ℕ) × DrawAt (d ∷ ds) n w × ((j : ℕ) (b : Draw) → DrawAt (d ∷ ds) j b → is_write x b.what ≡ true → j ≤ n)
    here true q rec = let z : Some d ≡ Some w = rw q at e in let same : w ≡ d = cc in (length ds, inl (refl, same), λ j b a i. top j b a)
    here false q rec =
        let z : last_write x ds ≡ Some w = rw q at e in
        let r = rec z in (
          r.0,
          inr r.1,
          λ j b a i. elim a [
            | inl n ↦
                absurd (let y : is_write x d.what ≡ true = subst (λ (k : Draw). is_write x k.what ≡ true) n.1 i in let c : true
                ≡ false = sym y
                ∙ q in cc)
            | inr n ↦ r.2 j b n i
          ],
        )

-- where no event stands in a list from place n on, its last event is that of its first n entries
no_later : (es : List Entry) (n : ℕ) → ((j : ℕ) (e : Entry) → At es j e → n ≤ j → position_of e ≡ None) → last_position es
    ≡ last_position (take n es)
no_later [] zero none = refl
no_later [] (suc n) none = refl
no_later (e ∷ es) zero none = ap (λ o. or_else o (position_of e)) (no_later es zero (λ j f at le. none (suc j) f at (omega arith)))
    ∙ none zero e refl (omega arith)
no_later (e ∷ es) (suc n) none = ap (λ o. or_else o (position_of e)) (no_later es n (λ j f at le. none (suc j) f at (omega arith)))

-- of two equal options the entries are equal
some_same : (a c : Entry) → Some a ≡ Some c → a ≡ c
some_same a c e = cc

module _ (log : List Stamp) (draws : ℕ → List Draw) (t : ℕ) (es : List Entry) (drawn : List Drawn) (x k : ℕ) (events : AreEvents log t es)
    (d : AreDrawn draws t es drawn) (all : DrawsHold log x (draws x)) (r : HasRight es (length es) x k true) (var nth : ℕ) (value : ℤ)
    (is : r.entry ≡ Plain x k false true value false) where
  -- the number k on x was drawn by the thread, in a draw that is kept and is for the write that the right is of
  pub its : (g : Draw) × DrawAt (draws x) k g × (g.thread ≡ t) × IsKept es drawn x k g × IsFor g.what r.entry x k
  its = d.made x k r.index r.entry r.there (subst (λ z. Draws z x k) (sym is) (inr (refl, refl, refl)))

  -- it was drawn for that write itself
  pub what_is : its.0.what ≡ Entered (Plain x k false true value false)
  what_is = own_for its.0.what (Plain x k false true value false) x k (refl, refl) (subst (λ z. IsFor its.0.what z x k) is its.4)

  -- the draw is a write of x
  writes : is_write x its.0.what ≡ true
  writes = rw what_is refl

  -- the write stands in the thread's block
  block_is : last_position es ≡ Some its.0.block
  block_is = by its.3
    where
      by : IsKept es drawn x k its.0 → last_position es ≡ Some its.0.block
      by (in_flight look c still) = absurd (let z : IsStill (Entered (Plain x k false true value false)) look =
          subst (λ w. IsStill w look) what_is still in z)
      by (in_list i g at dr is_for block) =
          let b : IsInBlock (Entered (Plain x k false true value false)) es i its.0.block =
          subst (λ w. IsInBlock w es i its.0.block) what_is block in
          let same : r.index ≡ i = index i g at is_for in
          let b' : BlockAt es r.index its.0.block = subst (λ z. BlockAt es z its.0.block) (sym same) b in
          no_later es (suc r.index) (λ j e a le. r.no_event j e a (omega arith) (at_within es j e a)) ∙ b'
        where
          index : (i : ℕ) (g : Entry) → At es i g → IsFor its.0.what g x k → r.index ≡ i
          index i g at f =
              let q : IsFor (Entered (Plain x k false true value false)) g x k = subst (λ w. IsFor w g x k) what_is f in
              let dg : Draws g x k = subst (λ z. Draws z x k) q.0 (inr (refl, refl, refl)) in
              let de : Draws r.entry x k = subst (λ z. Draws z x k) (sym is) (inr (refl, refl, refl)) in
              elim (ℕ_discrete r.index i) [
                | yes e ↦ e
                | no ne ↦ elim (native.Mathlib.Decide.dec_le r.index i) [
                  | yes le ↦ absurd (let lt : r.index < i = omega arith in let z = d.rise x k k r.index i r.entry g r.there at lt de dg
                      in omega arith)
                  | no gt ↦ absurd (let lt : i < r.index = omega arith in let z = d.rise x k k i r.index g r.entry at r.there lt dg de
                      in omega arith)
                ]
              ]

  -- no event of the draw's thread is behind the draw's block
  upto : (q : ℕ) (z : Stamp) → EventAt log q z → z.thread ≡ its.0.thread → q ≤ its.0.block
  upto q z at own = (last_own log t es events its.0.block block_is).upto q z at (own ∙ its.2)

  -- an own write with a greater number would stand in the list
  own_later : (n : ℕ) (w : Draw) → DrawAt (draws x) n w → w.thread ≡ t → is_write x w.what ≡ true → k < n → ⊥
  own_later n w at own wr lt = by (d.kept x n w at own)
    where
      entered : (v : What) → is_write x v ≡ true → (look : Option ℤ) → IsStill v look → ⊥
      entered (Entered e) i look s = s
      entered (Looked v) i look s = cc
      entered Open i look s = cc

      gives : (g : Entry) (v : What) → v ≡ w.what → IsFor v g x n → is_write x v ≡ true → Draws g x n → (position_of g ≡ None → ⊥)
          ⊎ GivesRight g x n true
      gives (Plain y m c true z false) v e f i dr = inr (plain (Plain y m c true z false) dr)
        where
          plain : (g : Entry) → Draws (Plain y m c true z false) x n → GivesRight (Plain y m c true z false) x n true
          plain g (inl l) = absurd l
          plain g (inr q) = (q.0, refl, q.1, q.2, refl)
      gives (Plain y m c true z true) (Entered e') e f i dr =
          absurd (let q : writes_var x (Plain y m c true z true) ≡ true = subst (λ a. writes_var x a ≡ true) f.0 i in cc)
      gives (Plain y m c false z a) (Entered e') e f i dr =
          absurd (let q : writes_var x (Plain y m c false z a) ≡ true = subst (λ b. writes_var x b ≡ true) f.0 i in cc)
      gives (Commit p tx) v e f i dr = inl (λ q. cc)
      gives (Sync a b c) v e f i dr = absurd (none dr)
        where
          none : Draws (Sync a b c) x n → ⊥
          none (inl l) = l
          none (inr l) = l
      gives (Abort tx why) (Entered e') e f i dr =
          absurd (let q : writes_var x (Abort tx why) ≡ true = subst (λ b. writes_var x b ≡ true) f.0 i in cc)
      gives (Trim a) v e f i dr = absurd (none dr)
        where
          none : Draws (Trim a) x n → ⊥
          none (inl l) = l
          none (inr l) = l
      gives (Over a) v e f i dr = absurd (none dr)
        where
          none : Draws (Over a) x n → ⊥
          none (inl l) = l
          none (inr l) = l
      gives g (Looked v) e f i dr = absurd (cc)
      gives g Open e f i dr = absurd (cc)

      by : IsKept es drawn x n w → ⊥
      by (in_flight look c still) = entered w.what wr look still
      by (in_list i g a dr f block) =
          let de : Draws r.entry x k = subst (λ z. Draws z x k) (sym is) (inr (refl, refl, refl)) in
          elim (native.Mathlib.Decide.dec_le i r.index) [
            | yes le ↦ elim (ℕ_discrete i r.index) [
              | yes e ↦ same_entry i g a dr e
              | no ne ↦ (let lt' : i < r.index = omega arith in let z = d.rise x n k i r.index g r.entry a r.there lt' dr de in omega arith)
            ]
            | no gt ↦ elim (gives g w.what refl f wr dr) [
              | inl event ↦ event (r.no_event i g a (omega arith) (at_within es i g a))
              | inr right ↦ r.latest i n g true a (omega arith) (at_within es i g a) right
            ]
          ]
        where
          same_entry : (i : ℕ) (g : Entry) → At es i g → Draws g x n → i ≡ r.index → ⊥
          same_entry i g a dr e =
              let z : r.entry ≡ g = some_same r.entry g (sym r.there ∙ ap (slice_get es) (sym e) ∙ a) in
              let q : Draws (Plain x k false true value false) x n = subst (λ y. Draws y x n) (sym z ∙ is) dr in
              number q
            where
              number : Draws (Plain x k false true value false) x n → ⊥
              number (inl l) = l
              number (inr l) = let y = l.2 in omega arith

  -- this draw is the last write of x
  pub last_is : last_write x (draws x) ≡ Some its.0
  last_is =
      let c = write_cases log x (draws x) all its.0 (draw_among (draws x) k its.0 its.1) writes in
      elim c.3 [
        | inl same ↦ c.2.last ∙ ap Some (sym same)
        | inr among ↦
            (let top = top_write x (draws x) c.0 c.2.last in
            let le = top.2 k its.0 its.1 writes in
            elim (ℕ_discrete top.0 k) [
              | yes e ↦ c.2.last ∙ ap Some (one_draw (draws x) k c.0 its.0 (subst (λ n. DrawAt (draws x) n c.0) e top.1) its.1)
              | no ne ↦ absurd (elim (ℕ_discrete c.0.thread t) [
                | yes own ↦ own_later top.0 c.0 top.1 own c.2.writes (omega arith)
                | no other ↦
                    (let w = entry_of_write x (length c.1) c.0.what c.2.holds.named c.2.writes in
                    none_behind log x its.0 c.0 c.1 (Plain x k false true value false) w.0 c.2.holds among what_is refl tt (refl, refl)
                    (ap Rattle.gl_draws.specs.Draws.variables_in what_is) upto w.1 w.2.0 (λ same. other (sym same ∙ its.2)))
              ])
            ])
      ]

  -- so the last write of x is one of the thread, which has made no event since
  pub right_owes : IsOwnLast draws t es x
  right_owes = record { draw = its.0; last = last_is; own = its.2; block = block_is; number = k; value = value; plain = what_is }

  -- nor was another access performed by the thread behind it
  own_performed : (n : ℕ) (a : Draw) (g : Entry) → DrawAt (draws x) n a → a.thread ≡ t → a.what ≡ Entered g → IsPerformed g → k < n → ⊥
  own_performed n a g at own made performed lt = by (d.kept x n a at own)
    where
      gives : (g : Entry) → IsPerformed g → Draws g x n → (position_of g ≡ None → ⊥) ⊎ ((b : Bool) × GivesRight g x n b)
      gives (Plain y m c b z r) p (inl l) = absurd l
      gives (Plain y m c b z r) p (inr l) = inr (b, (l.0, p, l.1, l.2, refl))
      gives (Commit q tx) p dr = inl (λ z. cc)
      gives (Sync a b c) p dr = absurd p
      gives (Abort a b) p dr = absurd p
      gives (Trim a) p dr = absurd p
      gives (Over a) p dr = absurd p

      by : IsKept es drawn x n a → ⊥
      by (in_flight look c still) = let z : IsStill (Entered g) look = subst (λ w. IsStill w look) made still in z
      by (in_list i h at' dr f block) =
          let q : IsFor (Entered g) h x n = subst (λ w. IsFor w h x n) made f in
          let p' : IsPerformed h = subst IsPerformed q.0 performed in
          let de : Draws r.entry x k = subst (λ z. Draws z x k) (sym is) (inr (refl, refl, refl)) in
          elim (native.Mathlib.Decide.dec_le i r.index) [
            | yes le ↦ elim (ℕ_discrete i r.index) [
              | yes e ↦
                  (let z : r.entry ≡ h = some_same r.entry h (sym r.there ∙ ap (slice_get es) (sym e) ∙ at') in
                  number (subst (λ y. Draws y x n) (sym z ∙ is) dr))
              | no ne ↦ (let lt' : i < r.index = omega arith in let z = d.rise x n k i r.index h r.entry at' r.there lt' dr de
                  in omega arith)
            ]
            | no gt ↦ elim (gives h p' dr) [
              | inl event ↦ event (r.no_event i h at' (omega arith) (at_within es i h at'))
              | inr right ↦ r.latest i n h right.0 at' (omega arith) (at_within es i h at') right.1
            ]
          ]
        where
          number : Draws (Plain x k false true value false) x n → ⊥
          number (inl l) = l
          number (inr l) = let y = l.2 in omega arith

  -- in a lower part of the draws of x that has the write, no access was performed behind the last write there
  calm_from : (ds : List Draw) → ((n : ℕ) (a : Draw) → DrawAt ds n a → DrawAt (draws x) n a) → DrawsHold log x ds → DrawAt ds k its.0
      → IsCalm x ds
  calm_from [] sub holds at = at
  calm_from (e ∷ ds) sub holds at = by (is_write x e.what) refl (λ q. calm_from ds (λ n a c. sub n a (inr c)) holds.1 q)
    where
      by : (q : Bool) → is_write x e.what ≡ q → (DrawAt ds k its.0 → IsCalm x ds) → IsCalm x (e ∷ ds)
      by true w rec = inl w
      by false w rec =
          let behind : DrawAt ds k its.0 = elim at [
            | inl n ↦
                absurd (let z : is_write x e.what ≡ true = subst (λ (a : Draw). is_write x a.what ≡ true) n.1 writes in let c : true
                ≡ false = sym z ∙ w in cc)
            | inr c ↦ c
          ] in
          let lt = draw_below ds k its.0 behind in
          inr (
            w,
            (λ g made performed. elim (ℕ_discrete e.thread t) [
              | yes own ↦ own_performed (length ds) e g (sub (length ds) e (inl (refl, refl))) own made performed lt
              | no other ↦ none_behind log x its.0 e ds (Plain x k false true value false) g holds.0 (draw_among ds k its.0 behind) what_is
                  refl tt (refl, refl) (ap Rattle.gl_draws.specs.Draws.variables_in what_is) upto made performed
                  (λ same. other (sym same ∙ its.2))
            ]),
            rec behind,
          )

  -- behind it no access of x was performed
  pub right_calm : IsCalm x (draws x)
  right_calm = calm_from (draws x) (λ n a c. c) all its.1
