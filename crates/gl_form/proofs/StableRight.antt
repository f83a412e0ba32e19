-- Whether a right is there is decided, so it is there where that is not refuted.
use Rattle.std.proofs.Common.{◌≡◌, ℕ, zero, suc, ◌<◌, ◌≤◌, Bool, true, false, List, Option, Some, None, refl, sym, ◌∙◌, subst, inl, inr}
use Rattle.std.proofs.Common.{arith}
use Rattle.std.specs.Prelude.{slice_get, ◌⊎◌}
use Rattle.std.proofs.lemmas.Bool.{cases_lt, cases_order}
use Rattle.gl_model.specs.Entries.{Entry, Sync, Commit, Plain, Abort, Trim, Over}
use Rattle.gl_model.specs.Form.{GivesRight, HasRight}
use Rattle.gl_model.specs.Records.{At, position_of}
use Rattle.gl_form.proofs.Allowing.{gives_one, gives_plain}
use Rattle.gl_form.proofs.Stable.{NotNot, either_nat}

record Gives (e : Entry) (x : ℕ) : Type 0 where
  number : ℕ
  write : Bool
  gives : GivesRight e x number write

-- two truth values are equal or not
either_bool : (b c : Bool) → (b ≡ c) ⊎ (b ≡ c → ⊥)
either_bool true true = inl refl
either_bool false false = inl refl
either_bool true false = inr (λ is. cc)
either_bool false true = inr (λ is. cc)

-- an entry gives a right on x, or does not
either_gives : (e : Entry) (x : ℕ) → Gives e x ⊎ (Gives e x → ⊥)
either_gives (Plain var nth cached write value raised) x =
    by_parts (either_bool cached false) (either_bool raised false) (either_nat var x) where
      by_parts :
          (cached ≡ false) ⊎ (cached ≡ false → ⊥) → (raised ≡ false) ⊎ (raised ≡ false → ⊥) → (var ≡ x) ⊎ (var ≡ x → ⊥) →
          Gives (Plain var nth cached write value raised) x ⊎ (Gives (Plain var nth cached write value raised) x → ⊥)
      by_parts (inl a) (inl b) (inl c) = inl (record { number = nth; write = write; gives = (a, b, c, refl, refl) })
      by_parts (inr a) b c = inr (λ g. a g.gives.0)
      by_parts (inl a) (inr b) c = inr (λ g. b g.gives.1)
      by_parts (inl a) (inl b) (inr c) = inr (λ g. c g.gives.2)
either_gives (Sync at act value) x = inr (λ g. g.gives)
either_gives (Commit at tx) x = inr (λ g. g.gives)
either_gives (Abort tx why) x = inr (λ g. g.gives)
either_gives (Trim low) x = inr (λ g. g.gives)
either_gives (Over ending) x = inr (λ g. g.gives)

-- what gives a right with a number gives it with an equal one
gives_number : (e : Entry) (x k m : ℕ) (w : Bool) → m ≡ k → GivesRight e x m w → GivesRight e x k w
gives_number e x k m w same g = rw (sym same) g

module _ (es : List Entry) (i x k : ℕ) (write : Bool) where
  abbrev Either : Type 0
  Either = HasRight es i x k write ⊎ (HasRight es i x k write → ⊥)

  -- between j and i nothing is an event, and nothing gives the right
  record Clear (j : ℕ) : Type 0 where
    events : (l : ℕ) (e : Entry) → At es l e → j ≤ l → l < i → position_of e ≡ None
    gives : (l m : ℕ) (e : Entry) (w : Bool) → At es l e → j ≤ l → l < i → GivesRight e x m w → ⊥

  -- where the entry at j is an event and nothing between j and i gives a right on x, an access at place i does not have the right
  at_event : (j : ℕ) (e : Entry) (p : ℕ) → j < i → At es j e → position_of e ≡ Some p → Clear (suc j) → HasRight es i x k write → ⊥
  at_event j e p less at is clear h = by_order (cases_order h.index j) where
    -- the entry that gives the right stands neither at j, nor before j, nor behind it
    by_order : (h.index ≡ j) ⊎ ((h.index < j) ⊎ (j < h.index)) → ⊥
    by_order (inl same) =
        let there : At es j h.entry = rw (sym same) h.there in
        let none = gives_plain h.entry x k h.by_write h.gives in
        let entries : h.entry ≡ e = cc in
        let moved : position_of e ≡ None = rw (sym entries) none in
        cc
    by_order (inr (inl lt)) = (let none = h.no_event j e at lt less in cc)
    by_order (inr (inr gt)) = clear.gives h.index k h.entry h.by_write h.there gt h.before h.gives

  -- where the right on x that the entry at j gives is not the one asked for,
  -- and nothing between j and i is an event or gives one, an access at place i does not have the right
  at_other :
      (j : ℕ) (e : Entry) (g : Gives e x) → j < i → At es j e → Clear (suc j) → ((g.number ≡ k) × (write ≡ true → g.write ≡ true) → ⊥) →
      HasRight es i x k write → ⊥
  at_other j e g less at clear wrong h = by_order (cases_order h.index j) where
    -- the entry that gives the right stands neither at j, nor before j, nor behind it
    by_order : (h.index ≡ j) ⊎ ((h.index < j) ⊎ (j < h.index)) → ⊥
    by_order (inl same) =
        let there : At es j h.entry = rw (sym same) h.there in
        let entries : h.entry ≡ e = cc in
        let Q : Entry → Type 0 = λ f. GivesRight f x k h.by_write in
        let mine : GivesRight e x k h.by_write = subst Q entries h.gives in
        let both = gives_one e x k g.number h.by_write g.write mine g.gives in
        wrong (sym both.0, λ w. sym both.1 ∙ h.enough w)
    by_order (inr (inl lt)) = h.latest j g.number e g.write at lt less g.gives
    by_order (inr (inr gt)) = clear.gives h.index k h.entry h.by_write h.there gt h.before h.gives

  -- a right, of a write or not, is enough for the access or it is not
  enough_or_not : (w : Bool) → (write ≡ true → w ≡ true) ⊎ ((write ≡ true → w ≡ true) → ⊥)
  enough_or_not true = inl (λ is. refl)
  enough_or_not false = elim (either_bool write true) [
    | inl is ↦ inr (λ f. let wrong = f is in cc)
    | inr not' ↦ inl (λ is. absurd (not' is))
  ]

  -- where the entry at j gives a right on x, and between j and i nothing is an event
  -- or gives one, an access at place i has the right or not
  at_giver : (j : ℕ) (e : Entry) (g : Gives e x) → j < i → At es j e → Clear (suc j) → Either
  at_giver j e g less at clear = by_parts (either_nat g.number k) (enough_or_not g.write) where
    -- whether the number given is k or not, and the right enough or not: an access at place i has the right or not
    by_parts : (g.number ≡ k) ⊎ (g.number ≡ k → ⊥) → (write ≡ true → g.write ≡ true) ⊎ ((write ≡ true → g.write ≡ true) → ⊥) → Either
    by_parts (inl same) (inl enough) = inl (record {
      index = j;
      entry = e;
      there = at;
      before = less;
      by_write = g.write;
      gives = gives_number e x k g.number g.write same g.gives;
      enough = enough;
      no_event = λ l f there gt lt. clear.events l f there gt lt;
      latest = λ l m f w there gt lt gives. clear.gives l m f w there gt lt gives;
    })
    by_parts (inr other) enough = inr (at_other j e g less at clear (λ both. other both.0))
    by_parts (inl same) (inr other) = inr (at_other j e g less at clear (λ both. other both.1))

  -- where what stands at j is no event and gives no right on x, all is clear from j on, if it is so from j + 1 on
  further : (j : ℕ) → ((e : Entry) → At es j e → (position_of e ≡ None) × (Gives e x → ⊥)) → Clear (suc j) → Clear j
  further j here clear = record {
    events = λ l e at le lt. elim (cases_lt j l) [
      | inl gt ↦ clear.events l e at gt lt
      | inr ge ↦ (let same : l ≡ j = omega arith in let there : At es j e = rw (sym same) at in (here e there).0)
    ];
    gives = λ l m e w at le lt g. elim (cases_lt j l) [
      | inl gt ↦ clear.gives l m e w at gt lt g
      | inr ge ↦ (let same : l ≡ j = omega arith in let there : At es j e = rw (sym same) at in
          (here e there).1 (record { number = m; write = w; gives = g }))
    ];
  }

  -- where nothing from j up to i is an event or gives a right on x, an access at place i has the right or not
  down : (j : ℕ) → j ≤ i → Clear j → Either
  down zero le clear = inr (λ h. clear.gives h.index k h.entry h.by_write h.there (omega arith) h.before h.gives)
  down (suc j) le clear = by_entry (slice_get es j) refl (λ c. down j (omega arith) c) where
    -- whether the entry at j, which is no event, gives a right on x or not: the access has
    -- the right or not, if that is known where all is clear from j on
    by_gives : (e : Entry) → At es j e → position_of e ≡ None → Gives e x ⊎ (Gives e x → ⊥) → (Clear j → Either) → Either
    by_gives e at none (inl g) more = at_giver j e g le at clear
    by_gives e at none (inr not') more = more (further j (λ f there. let same : e ≡ f = cc in
        (rw (sym same) none, rw (sym same) not')) clear)

    -- whether the entry at j is an event or not: the access has the right or not, if that is known where all is clear from j on
    by_position : (e : Entry) → At es j e → (o : Option ℕ) → position_of e ≡ o → (Clear j → Either) → Either
    by_position e at (Some p) is more = inr (at_event j e p le at is clear)
    by_position e at None is more = by_gives e at is (either_gives e x) more

    -- whether an entry stands at j or not: the access has the right or not, if that is known where all is clear from j on
    by_entry : (o : Option Entry) → slice_get es j ≡ o → (Clear j → Either) → Either
    by_entry None none more = more (further j (λ f there. cc) clear)
    by_entry (Some e) at more = by_position e at (position_of e) refl more

  -- where it is not refuted that an access at place i has the right, it has it
  pub stable_right : NotNot (HasRight es i x k write) → HasRight es i x k write
  stable_right refuted =
      elim (down i (omega arith) (record { events = λ l e at le lt. absurd (omega arith); gives = λ l m e w at le lt g. omega arith })) [
        | inl right ↦ right
        | inr not' ↦ absurd (refuted not')
      ]
