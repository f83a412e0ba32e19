-- The rights of a list stay what it grants, and the list stays sparing.
use Rattle.std.proofs.Common.{◌≡◌, ◌≢◌, ℕ, ℤ, ◌<◌, ◌==◌, Bool, true, false, ◌||◌, List, [], ◌∷◌, ◌++◌, length, refl, sym, ◌∙◌, ap, subst, arith, Option, Some, None, inl, inr, eq-eqb}
use Rattle.std.specs.Prelude.{◌↔◌, if◌then◌else◌}
use Rattle.std.proofs.lemmas.Bool.Decides.{nat_tests}
use Rattle.std.proofs.lemmas.List.{append-nil, append_assoc}
use native.Mathlib.Decide.{ℕ_discrete}
use Rattle.gl_model.specs.Entries.{Entry, Sync, Commit, Plain, Abort, Trim, Over}
use Rattle.gl_model.specs.Form.{At, EndsRights, GivesRight}
use Rattle.gl_draws.proofs.Pushes.{at_kept, at_new, at_cases, at_within}
use Rattle.gl_bytecode.specs.Runs.{Exchange, Made, Quiet, entries_of}
use Rattle.gl_table.specs.PassView.{Own}
use Rattle.gl_table.specs.RightOf.{right_of}
use Rattle.gl_riders.specs.Exchanges.{IsRightly, RepeatsRightly}
use Rattle.gl_riders.specs.Sparing.{Grants, HasRightTo, IsSpared, Spares, allows}
use Rattle.gl_riders.specs.Sweeping.{AreTrims}
use Rattle.gl_riders.proofs.Lists.{right_push}

-- what stood there stands there still
at_before : (es : List Entry) (e f : Entry) (i : ℕ) → i < length es → At (es ++ e ∷ []) i f → At es i f
at_before es e f i less a = elim (at_cases es e f i a) [ inl old ↦ old | inr new ↦ absurd (let j = new.0 in omega arith) ]

-- ## Sparing of one place

-- a right to the access that stands at i
record IsGiven (es : List Entry) (i x : ℕ) (write : Bool) : Type 0 where
  j : ℕ
  before : j < i
  entry : Entry
  there : At es j entry
  nth : ℕ
  w : Bool
  gives : GivesRight entry x nth w
  enough : write ≡ true → w ≡ true
  no_end : (l : ℕ) (f : Entry) → At es l f → j < l → l < i → EndsRights f → ⊥

-- since the last event or abort before place i an entry gave a right to such an access of x
abbrev Given : List Entry → ℕ → ℕ → Bool → Type 0
Given es i x write =
    ((j : ℕ) × (j < i) × ((e : Entry) × At es j e × ((m : ℕ) × ((w : Bool) × GivesRight e x m w × (write ≡ true → w ≡ true)))) ×
    ((l : ℕ) (f : Entry) → At es l f → j < l → l < i → EndsRights f → ⊥))

-- what says that there is a right to the access at i makes the record of it
given_is : (es : List Entry) (i x : ℕ) (write : Bool) → Given es i x write → IsGiven es i x write
given_is es i x write (j, less, (e, there, (m, (w, gives, enough))), no_end) = record {
  j = j;
  before = less;
  entry = e;
  there = there;
  nth = m;
  w = w;
  gives = gives;
  enough = enough;
  no_end = no_end;
}

-- the record of a right to the access at i says that there is one
is_given : (es : List Entry) (i x : ℕ) (write : Bool) → IsGiven es i x write → Given es i x write
is_given es i x write g = (g.j, g.before, (g.entry, g.there, (g.nth, (g.w, g.gives, g.enough))), g.no_end)

-- a right to the access at i is one still when the list has one entry more
given_more : (es : List Entry) (e : Entry) (i x : ℕ) (write : Bool) → i < length es → IsGiven es i x write
    → IsGiven (es ++ e ∷ []) i x write
given_more es e i x write less g = record {
  j = g.j;
  before = g.before;
  entry = g.entry;
  there = at_kept es (e ∷ []) g.j g.entry g.there;
  nth = g.nth;
  w = g.w;
  gives = g.gives;
  enough = g.enough;
  no_end = λ l f a after low ends. g.no_end l f (at_before es e f l (omega arith) a) after low ends;
}

-- a right to the access at i in a list with one entry more was one without it
given_less : (es : List Entry) (e : Entry) (i x : ℕ) (write : Bool) → i < length es → IsGiven (es ++ e ∷ []) i x write
    → IsGiven es i x write
given_less es e i x write less g =
    let before = g.before in
    record {
      j = g.j;
      before = g.before;
      entry = g.entry;
      there = at_before es e g.entry g.j (omega arith) g.there;
      nth = g.nth;
      w = g.w;
      gives = g.gives;
      enough = g.enough;
      no_end = λ l f a after low ends. g.no_end l f (at_kept es (e ∷ []) l f a) after low ends;
    }

-- at the end of the list it is what the list grants
granted_given : (es : List Entry) (e : Entry) (x : ℕ) (write w : Bool) → Grants es x w → (write ≡ true → w ≡ true)
    → IsGiven (es ++ e ∷ []) (length es) x write
granted_given es e x write w g enough = record {
  j = g.index;
  before = at_within es g.index g.entry g.there;
  entry = g.entry;
  there = at_kept es (e ∷ []) g.index g.entry g.there;
  nth = g.nth;
  w = w;
  gives = g.gives;
  enough = enough;
  no_end = λ l f a after low ends. g.no_end l f (at_before es e f l low a) after ends;
}

-- a right to the entry that is put last was granted by the list before it
given_granted : (es : List Entry) (e : Entry) (x : ℕ) (write : Bool) → (g : IsGiven (es ++ e ∷ []) (length es) x write) → Grants es x g.w
given_granted es e x write g = record {
  index = g.j;
  entry = g.entry;
  there = at_before es e g.entry g.j g.before g.there;
  nth = g.nth;
  gives = g.gives;
  no_end = λ l f a after ends. g.no_end l f (at_kept es (e ∷ []) l f a) after (at_within es l f a) ends;
}

-- an entry is as sparing asks at the end of the list
abbrev IsSparedNext : List Entry → Entry → Type 0
IsSparedNext es e = (x k : ℕ) (cached write raised : Bool) (value : ℤ) → e ≡ Plain x k cached write value raised
    → (cached ≡ true) ↔ IsGiven (es ++ e ∷ []) (length es) x write

-- a list that is spared stays so after an entry that is as sparing asks
spared_more : (es : List Entry) (e : Entry) → IsSpared es → IsSparedNext es e → IsSpared (es ++ e ∷ [])
spared_more es e spared next i x k cached write raised value a = elim (at_cases es e (Plain x k cached write value raised) i a) [
  | inl old ↦
      (let less = at_within es i (Plain x k cached write value raised) old in
      let s = spared i x k cached write raised value old in (
        (λ is. is_given (es ++ e ∷ []) i x write (given_more es e i x write less (given_is es i x write (s.0 is)))),
        (λ g. s.1 (is_given es i x write (given_less es e i x write less (given_is (es ++ e ∷ []) i x write g)))),
      ))
  | inr new ↦
      (let n = next x k cached write raised value (sym new.1) in
      let at : ℕ → Type 0 = λ p. (cached ≡ true) ↔ Given (es ++ e ∷ []) p x write in
      let here : (cached ≡ true) ↔ Given (es ++ e ∷ []) (length es) x write = (
        (λ is. is_given (es ++ e ∷ []) (length es) x write (n.0 is)),
        (λ g. n.1 (given_is (es ++ e ∷ []) (length es) x write g)),
      ) in
      subst at (sym new.0) here)
]

-- ## An entry that is not plain

-- what is granted after one entry more was granted before, or is given by that entry
granted_old :
    (es : List Entry) (e : Entry) (x : ℕ) (w : Bool) → ((m : ℕ) → GivesRight e x m w → ⊥) → Grants (es ++ e ∷ []) x w → Grants es x w
    × (EndsRights e → ⊥)
granted_old es e x w other g = elim (at_cases es e g.entry g.index g.there) [
  | inl old ↦
      (let less = at_within es g.index g.entry old in (
        (record {
          index = g.index;
          entry = g.entry;
          there = old;
          nth = g.nth;
          gives = g.gives;
          no_end = λ l f a after ends. g.no_end l f (at_kept es (e ∷ []) l f a) after ends;
        }),
        (λ ends. g.no_end (length es) e (at_new es e) less ends),
      ))
  | inr new ↦ absurd (let at : Entry → Type 0 = λ f. GivesRight f x g.nth w in other g.nth (subst at new.1 g.gives))
]

-- a right that is granted stays granted after an entry that ends none
granted_kept : (es : List Entry) (e : Entry) (x : ℕ) (w : Bool) → (EndsRights e → ⊥) → Grants es x w → Grants (es ++ e ∷ []) x w
granted_kept es e x w goes g = record {
  index = g.index;
  entry = g.entry;
  there = at_kept es (e ∷ []) g.index g.entry g.there;
  nth = g.nth;
  gives = g.gives;
  no_end = λ l f a after ends. elim (at_cases es e f l a) [
    | inl old ↦ g.no_end l f old after ends
    | inr new ↦ (let at : Entry → Type 0 = λ h. EndsRights h in goes (subst at new.1 ends))
  ];
}

-- an entry that ends rights gives none
ends_gives : (e : Entry) (x m : ℕ) (w : Bool) → EndsRights e → GivesRight e x m w → ⊥
ends_gives (Sync at act value) x m w ends gives = gives
ends_gives (Commit at tx) x m w ends gives = gives
ends_gives (Abort tx why) x m w ends gives = gives
ends_gives (Plain y n k v a r) x m w ends gives = ends
ends_gives (Trim low) x m w ends gives = gives
ends_gives (Over ending) x m w ends gives = gives

-- an event or an abort is as sparing asks
ends_spared : (es : List Entry) (e : Entry) → EndsRights e → IsSparedNext es e
ends_spared es e ends x k cached write raised value is = absurd (let at : Entry → Type 0 = λ f. EndsRights f in subst at is ends)

-- an empty list gives no right
no_right : (x n : ℕ) (w : Bool) → right_of [] x ≡ Some (n, w) → ⊥
no_right x n w is = absurd (let e : ◌≡◌ {A = Option (ℕ × Bool)} None (Some (n, w)) = is in cc)

-- an empty list is sparing
pub spares_new : Spares []
spares_new = record {
  granted = λ x n w is. absurd (no_right x n w is);
  complete = λ x w g. absurd (let less = at_within [] g.index g.entry g.there in omega arith);
  spared = λ i x k cached write raised value a. absurd (let less = at_within [] i (Plain x k cached write value raised) a in omega arith);
}

-- behind an entry that ends rights there is none
pub right_ended : (es : List Entry) (e : Entry) (x : ℕ) → EndsRights e → right_of (es ++ e ∷ []) x ≡ None
right_ended es (Sync at act value) x ends = right_push es (Sync at act value) x
right_ended es (Commit at tx) x ends = right_push es (Commit at tx) x
right_ended es (Abort tx why) x ends = right_push es (Abort tx why) x
right_ended es (Plain y n k v a r) x ends = absurd ends
right_ended es (Trim low) x ends = absurd ends
right_ended es (Over ending) x ends = absurd ends

-- a sparing list stays so after an entry that ends rights
pub spares_ends : (es : List Entry) (e : Entry) → Spares es → EndsRights e → Spares (es ++ e ∷ [])
spares_ends es e s ends = record {
  granted = λ x n w is. absurd (let t : ◌≡◌ {A = Option (ℕ × Bool)} None (Some (n, w)) = sym (right_ended es e x ends) ∙ is in cc);
  complete = λ x w g. absurd ((granted_old es e x w (λ m gives. ends_gives e x m w ends gives) g).1 ends);
  spared = spared_more es e s.spared (ends_spared es e ends);
}

-- a note: it neither gives rights nor ends them
abbrev IsNote : Entry → Type 0
IsNote (Trim low) = Unit {0}
IsNote (Over ending) = Unit {0}
IsNote _ = ⊥

-- a note gives no right
note_gives : (e : Entry) (x m : ℕ) (w : Bool) → IsNote e → GivesRight e x m w → ⊥
note_gives (Sync at act value) x m w note gives = note
note_gives (Commit at tx) x m w note gives = note
note_gives (Abort tx why) x m w note gives = note
note_gives (Plain y n k v a r) x m w note gives = note
note_gives (Trim low) x m w note gives = gives
note_gives (Over ending) x m w note gives = gives

-- a note ends no right
note_goes : (e : Entry) → IsNote e → EndsRights e → ⊥
note_goes (Sync at act value) note ends = note
note_goes (Commit at tx) note ends = note
note_goes (Abort tx why) note ends = note
note_goes (Plain y n k v a r) note ends = note
note_goes (Trim low) note ends = ends
note_goes (Over ending) note ends = ends

-- a note leaves the right that a list gives
right_noted : (es : List Entry) (e : Entry) (x : ℕ) → IsNote e → right_of (es ++ e ∷ []) x ≡ right_of es x
right_noted es (Sync at act value) x note = absurd note
right_noted es (Commit at tx) x note = absurd note
right_noted es (Abort tx why) x note = absurd note
right_noted es (Plain y n k v a r) x note = absurd note
right_noted es (Trim low) x note = right_push es (Trim low) x
right_noted es (Over ending) x note = right_push es (Over ending) x

-- the same right, where an entry changes none
right_to : (es : List Entry) (e : Entry) (x : ℕ) (w : Bool) → right_of (es ++ e ∷ []) x ≡ right_of es x → HasRightTo es x w
    → HasRightTo (es ++ e ∷ []) x w
right_to es e x w same r = record { nth = r.nth; by_write = r.by_write; right = same ∙ r.right; enough = r.enough }

-- a sparing list stays so after a note
pub spares_note : (es : List Entry) (e : Entry) → Spares es → IsNote e → Spares (es ++ e ∷ [])
spares_note es e s note = record {
  granted = λ x n w is. granted_kept es e x w (λ ends. note_goes e note ends) (s.granted x n w (sym (right_noted es e x note) ∙ is));
  complete = λ x w g. right_to es e x w (right_noted es e x note)
      (s.complete x w (granted_old es e x w (λ m gives. note_gives e x m w note gives) g).0);
  spared = spared_more es e s.spared (λ x k cached write raised value is. absurd (let at : Entry → Type 0 = λ f. IsNote f
      in subst at is note));
}

-- a sparing list stays so after trims
pub spares_trims : (es ts : List Entry) → Spares es → AreTrims ts → Spares (es ++ ts)
spares_trims es [] s trims = (let at : List Entry → Type 0 = λ fs. Spares fs in subst at (sym (append-nil es)) s)
spares_trims es (Trim low ∷ ts) s trims =
    let at : List Entry → Type 0 = λ fs. Spares fs in
    subst at (append_assoc es (Trim low ∷ []) ts) (spares_trims (es ++ Trim low ∷ []) ts (spares_note es (Trim low) s tt) trims)
spares_trims es (Sync at act value ∷ ts) s trims = absurd trims
spares_trims es (Commit at tx ∷ ts) s trims = absurd trims
spares_trims es (Plain x n k w v r ∷ ts) s trims = absurd trims
spares_trims es (Abort tx why ∷ ts) s trims = absurd trims
spares_trims es (Over e ∷ ts) s trims = absurd trims

-- ## A plain entry

-- where the rights allow an access, one is granted that is enough
record IsAllowed (es : List Entry) (x : ℕ) (write : Bool) : Type 0 where
  w : Bool
  grants : Grants es x w
  enough : write ≡ true → w ≡ true

-- a repeat that the right of a sparing list allows is allowed by the list
allowed_by : (es : List Entry) (x : ℕ) (write : Bool) (o : Option (ℕ × Bool)) → Spares es → right_of es x ≡ o → allows o write ≡ true
    → IsAllowed es x write
allowed_by es x write None s is may = cc
allowed_by es x true (Some (n, w)) s is may = record { w = w; grants = s.granted x n w is; enough = λ t. may }
allowed_by es x false (Some (n, w)) s is may = record { w = w; grants = s.granted x n w is; enough = λ t. cc }

-- a right that writes if the access does allows it
allows_right : (write w : Bool) (n : ℕ) → (write ≡ true → w ≡ true) → allows (Some (n, w)) write ≡ true
allows_right true w n enough = enough refl
allows_right false w n enough = refl

-- where a sparing list grants an access, its right allows it
right_allows : (es : List Entry) (x : ℕ) (write w : Bool) → Spares es → Grants es x w → (write ≡ true → w ≡ true)
    → allows (right_of es x) write ≡ true
right_allows es x write w s g enough =
    let r = s.complete x w g in
    ap (λ o. allows o write) r.right ∙ allows_right write r.by_write r.nth (λ t. r.enough (enough t))

-- a plain entry that is cached exactly where the right allows it is as sparing asks
plain_spared :
    (es : List Entry) (x n : ℕ) (cached write raised : Bool) (value : ℤ) → Spares es → cached ≡ allows (right_of es x) write →
    IsSparedNext es (Plain x n cached write value raised)
plain_spared es x n cached write raised value s is y k cached' write' raised' value' same =
    let e : Entry = Plain x n cached write value raised in
    let sx : x ≡ y = cc in
    let sc : cached ≡ cached' = cc in
    let sw : write ≡ write' = cc in
    let is' : cached' ≡ allows (right_of es y) write' = sym sc ∙ is ∙ (λ i. allows (right_of es (sx i)) (sw i)) in (
      (λ yes'.
          (let a = allowed_by es y write' (right_of es y) s refl (sym is' ∙ yes') in
          granted_given es e y write' a.w a.grants a.enough)),
      (λ g. is' ∙ right_allows es y write' g.w s (given_granted es e y write' g) g.enough),
    )

-- a repeat, or a raised access, changes no right
pub unnumbered_right : (es : List Entry) (x n : ℕ) (cached write raised : Bool) (value : ℤ) (y : ℕ) → (cached || raised) ≡ true
    → right_of (es ++ Plain x n cached write value raised ∷ []) y ≡ right_of es y
unnumbered_right es x n true write raised value y none = right_push es (Plain x n true write value raised) y
unnumbered_right es x n false write true value y none = right_push es (Plain x n false write value true) y
unnumbered_right es x n false write false value y none = cc

-- a numbered performed entry
numbered :
    (es : List Entry) (x n : ℕ) (write : Bool) (value : ℤ) → Spares es → false ≡ allows (right_of es x) write
    → Spares (es ++ Plain x n false write value false ∷ [])
numbered es x n write value s is = record {
  granted = λ y m w right. by_test y m w (x == y) refl (sym (right_push es e y) ∙ right);
  complete = λ y w g. complete' y w g;
  spared = spared_more es e s.spared (plain_spared es x n false write false value s is);
} where
  e : Entry
  e = Plain x n false write value false

  here : Grants (es ++ e ∷ []) x write
  here = record {
    index = length es;
    entry = e;
    there = at_new es e;
    nth = n;
    gives = (refl, refl, refl, refl, refl);
    no_end = λ l f a after ends. (let less = at_within (es ++ e ∷ []) l f a
        in elim (at_cases es e f l a) [
          | inl old ↦ (let within = at_within es l f old in absurd (omega arith))
          | inr new ↦ (let j = new.0 in absurd (omega arith))
        ]);
  }

  by_test : (y m : ℕ) (w b : Bool) → (x == y) ≡ b → (if b then Some (n, write) else right_of es y) ≡ Some (m, w) → Grants (es ++ e ∷ []) y w
  by_test y m w true same right =
      let sx : x ≡ y = grind (arith, nat_tests) in
      let pair : (n, write) ≡ (m, w) = cc in
      let sw : write ≡ w = ap (λ (q : ℕ × Bool). q.1) pair in
      let at : ℕ × Bool → Type 0 = λ t. Grants (es ++ e ∷ []) t.0 t.1 in
      subst at (λ i. (sx i, sw i)) here
  by_test y m w false other right = granted_kept es e y w (λ ends. ends) (s.granted y m w right)

  right_here : (y : ℕ) → (x == y) ≡ true → right_of (es ++ e ∷ []) y ≡ Some (n, write)
  right_here y same = right_push es e y ∙ rw same refl

  -- what was granted on x before is a read, where this is one
  weaker : (w : Bool) → Grants es x w → w ≡ true → write ≡ true
  weaker w g is_write = by_write write (λ allowed. (let no' : false ≡ true = is ∙ allowed in cc)) where
    by_write : (v : Bool) → (allows (right_of es x) write ≡ true → ⊥) → v ≡ true
    by_write true not' = refl
    by_write false not' = absurd (not' (right_allows es x write w s g (λ t. is_write)))

  by_other : (z : ℕ) → z ≢ x → (b : Bool) → (x == z) ≡ b → (if b then Some (n, write) else right_of es z) ≡ right_of es z
  by_other z apart true same = absurd (apart (let p : x ≡ z = grind (arith, nat_tests) in sym p))
  by_other z apart false same = refl

  complete' : (y : ℕ) (w : Bool) → Grants (es ++ e ∷ []) y w → HasRightTo (es ++ e ∷ []) y w
  complete' y w g = elim (ℕ_discrete y x) [
    | yes same ↦
        (let test : (x == y) ≡ true = eq-eqb x y (sym same) in
        record {
          nth = n;
          by_write = write;
          right = right_here y test;
          enough = λ t. elim (at_cases es e g.entry g.index g.there) [
            | inl old ↦
                (let g' : Grants es y w = record {
                  index = g.index;
                  entry = g.entry;
                  there = old;
                  nth = g.nth;
                  gives = g.gives;
                  no_end = λ l f a after ends. g.no_end l f (at_kept es (e ∷ []) l f a) after ends;
                } in
                let at : ℕ → Type 0 = λ z. Grants es z w in
                weaker w (subst at same g') t)
            | inr new ↦ (let at : Entry → Type 0 = λ f. GivesRight f y g.nth w
                in let gives : GivesRight e y g.nth w = subst at new.1 g.gives in gives.4 ∙ t)
          ];
        })
    | no other ↦
        (let old = granted_old es e y w (λ m gives. other (sym gives.2)) g in
        right_to es e y w (right_push es e y ∙ by_other y other (x == y) refl) (s.complete y w old.0))
  ]

-- a repeat, or a raised access
unnumbered :
    (es : List Entry) (x n : ℕ) (cached write raised : Bool) (value : ℤ) → Spares es → cached ≡ allows (right_of es x) write →
    (cached || raised) ≡ true → Spares (es ++ Plain x n cached write value raised ∷ [])
unnumbered es x n cached write raised value s is none = record {
  granted = λ y m w right. granted_kept es e y w (λ ends. ends) (s.granted y m w (sym (right_same y) ∙ right));
  complete = λ y w g. right_to es e y w (right_same y)
      (s.complete y w (granted_old es e y w (λ m gives. neither cached raised none gives.0 gives.1) g).0);
  spared = spared_more es e s.spared (plain_spared es x n cached write raised value s is);
} where
  e : Entry
  e = Plain x n cached write value raised

  right_same : (y : ℕ) → right_of (es ++ e ∷ []) y ≡ right_of es y
  right_same y = unnumbered_right es x n cached write raised value y none

  neither : (a b : Bool) → (a || b) ≡ true → a ≡ false → b ≡ false → ⊥
  neither true b some is' is'' = cc
  neither false true some is' is'' = cc
  neither false false some is' is'' = cc

-- a sparing list stays so after an access that is cached exactly where the right allows it
pub spares_plain :
    (es : List Entry) (x n : ℕ) (cached write raised : Bool) (value : ℤ) → Spares es → cached ≡ allows (right_of es x) write
    → Spares (es ++ Plain x n cached write value raised ∷ [])
spares_plain es x n true write raised value s is = unnumbered es x n true write raised value s is refl
spares_plain es x n false write true value s is = unnumbered es x n false write true value s is refl
spares_plain es x n false write false value s is = numbered es x n write value s is

-- ## An answer

-- a sparing list stays so after an entry that repeats rightly
spares_entry : (own : Own) (e : Entry) → Spares own.mine → IsRightly e own → Spares (own.mine ++ e ∷ [])
spares_entry own (Sync at act value) s r = spares_ends own.mine (Sync at act value) s tt
spares_entry own (Commit at tx) s r = spares_ends own.mine (Commit at tx) s tt
spares_entry own (Abort tx why) s r = spares_ends own.mine (Abort tx why) s tt
spares_entry own (Plain x n cached write value raised) s r = spares_plain own.mine x n cached write raised value s r
spares_entry own (Trim low) s r = absurd r
spares_entry own (Over ending) s r = absurd r

-- a sparing list stays so after an exchange that repeats rightly
pub spares_on : (own new : Own) (x : Exchange) → Spares own.mine → RepeatsRightly x own → new.mine ≡ own.mine ++ entries_of (x ∷ [])
    → Spares new.mine
spares_on own new (Made e) s r mine = rw mine (spares_entry own e s r)
spares_on own new (Quiet reply) s r mine =
    let mine' : new.mine ≡ own.mine = mine ∙ append-nil own.mine in
    rw mine' s

-- ## What the definition refuses
