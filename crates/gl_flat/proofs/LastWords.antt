-- The last word among some places, and among one place more.
use Rattle.std.proofs.Common.{◌≡◌, ◌≢◌, ℕ, zero, suc, List, [], ◌∷◌, refl, ap, subst, sym, ◌∙◌, inl, inr, arith, true, false}
use Rattle.std.specs.Prelude.{◌⊎◌, ◌↔◌, ℤ, pos, Contains}
use native.Mathlib.Decide.{ℕ_discrete}
use Rattle.gl_model.specs.declared.event.Stamp.{Stamp}
use Rattle.gl_model.specs.declared.tx.Pair.{Pair}
use Rattle.gl_model.specs.Entries.{Entry, Sync, Commit, Plain, Abort, Trim, Over}
use Rattle.gl_model.specs.Flat.{InFlatOrder, WritesValue, stored}
use Rattle.gl_model.specs.Machine.{with_at}
use Rattle.gl_model.specs.Records.{Lists, Place, EntryAt, IsEventList, PositionsRise}
use Rattle.gl_laws.proofs.Bridge.{same_entry}
use Rattle.gl_laws.proofs.FlatLaws.{InFlatOrder-trans}
use Rattle.gl_laws.proofs.Histories.{RisingWrites, written_word}
use Rattle.gl_draws.proofs.DrawTies.{with_here, with_else}
use Rattle.gl_flat.specs.Words.{IsLastWord, WritesAt}
use Rattle.gl_flat.specs.Walk.{words_past}
use Rattle.gl_flat.proofs.FlatOrder.{HasBlock, compare, no_loop}

-- the words after some writes: that of x was written by one of them, or is as before where none writes x
abbrev StoredOrKept : (ℕ → ℤ) → List Pair → ℕ → Type 0
StoredOrKept words ws x =
    Contains ws (record { var = x; value = stored words ws x }) ⊎
    (((u : ℤ) → Contains ws (record { var = x; value = u }) → ⊥) × (stored words ws x ≡ words x))

-- what is written neither by the first write, which is of another variable, nor by the others, is not written
no_pair : (w : Pair) (ws : List Pair) (x : ℕ) (u : ℤ) → x ≢ w.var → (Contains ws (record { var = x; value = u }) → ⊥) →
    Contains (w ∷ ws) (record { var = x; value = u }) → ⊥
no_pair w ws x u ne none (zero, n, e) = ne (sym (ap (λ (p : Pair). p.var) e))
no_pair w ws x u ne none (suc k, n, e) = none (k, omega arith, e)

-- after some writes a word was written by one of them, or is as before
stored_or_kept : (words : ℕ → ℤ) (ws : List Pair) (x : ℕ) → StoredOrKept words ws x
stored_or_kept words [] x = inr (λ u c. (let n = c.1 in omega arith), refl)
stored_or_kept words (w ∷ ws) x = elim (stored_or_kept (with_at words w.var w.value) ws x) [
  | inl c ↦ inl (suc c.0, (let n = c.1 in omega arith), c.2)
  | inr q ↦ elim (ℕ_discrete x w.var) [
    | yes same ↦ inl (
      zero,
      omega arith,
      (let v : stored words (w ∷ ws) x ≡ w.value = q.1 ∙ ap (with_at words w.var w.value) same ∙
          with_here words w.var w.value in λ i. record { var = sym same i; value = sym v i }),
    )
    | no ne ↦ inr (λ u. no_pair w ws x u ne (q.0 u), q.1 ∙ with_else words w.var x w.value ne)
  ]
]

-- the word of x after an entry: the entry wrote it, or it is as before where the entry writes no x
abbrev WrittenOrKept : (ℕ → ℤ) → Entry → ℕ → Type 0
WrittenOrKept words e x = WritesValue e x (words_past words e x) ⊎ (((u : ℤ) → WritesValue e x u → ⊥) × (words_past words e x ≡ words x))

-- after an entry a word was written by it, or is as before
written_or_kept : (words : ℕ → ℤ) (e : Entry) (x : ℕ) → WrittenOrKept words e x
written_or_kept words (Plain var nth cached true value false) x = elim (ℕ_discrete x var) [
  | yes same ↦ inl (refl, sym same, refl, sym (ap (with_at words var value) same ∙ with_here words var value))
  | no ne ↦ inr (λ u w. ne (sym w.1), with_else words var x value ne)
]
written_or_kept words (Plain var nth cached true value true) x = inr (λ u w. (let z = w.0 in cc), refl)
written_or_kept words (Plain var nth cached false value raised) x = inr (λ u w. (let z = w.2 in cc), refl)
written_or_kept words (Commit at tx) x = stored_or_kept words tx.writes x
written_or_kept words (Sync at act value) x = inr (λ u w. w, refl)
written_or_kept words (Abort tx why) x = inr (λ u w. w, refl)
written_or_kept words (Trim low) x = inr (λ u w. w, refl)
written_or_kept words (Over ending) x = inr (λ u w. w, refl)

-- what the entry at a place does not write, the place does not
pub writes_not : (R : Lists) (c g : Place) (e : Entry) (x : ℕ) (u : ℤ) → EntryAt R c e → (WritesValue e x u → ⊥) → g ≡ c →
    WritesAt R g x u → ⊥
writes_not R c g e x u there none same w =
    let at : EntryAt R c w.0 = subst (λ z. EntryAt R z w.0) same w.1 in
    none (subst (λ f. WritesValue f x u) (same_entry R c w.0 e at there) w.2)

-- the last word of x among some places is that among more, where none of the others writes x
pub word_among : (R : Lists) (Among Others : Place → Type 0) (x : ℕ) (v : ℤ) → ((d : Place) → Among d → Others d) →
    ((d : Place) (u : ℤ) → Others d → WritesAt R d x u → Among d) → IsLastWord R Among x v → IsLastWord R Others x v
word_among R Among Others x v to from (inl l) = inl (l.0, to l.0 l.1, l.2, λ g u m w. l.3 g u (from g u m w) w)
word_among R Among Others x v to from (inr n) = inr (n.0, λ g u m w. n.1 g u (from g u m w) w)

module _ (R : Lists) (h : List Stamp) (is_list : IsEventList h R) (rise : PositionsRise R) where
  -- the word after one place more, which stands behind the others
  pub word_more : (Among More : Place → Type 0) (c : Place) (e : Entry) (words : ℕ → ℤ) (x : ℕ) → EntryAt R c e →
      ((d : Place) → Among d → InFlatOrder R d c) →
      ((d : Place) → More d ↔ (Among d ⊎ (d ≡ c))) → IsLastWord R Among x (words x) → IsLastWord R More x (words_past words e x)
  word_more Among More c e words x there behind each last =
      elim (written_or_kept words e x) [ inl w ↦ inl (c, (each c).1 (inr refl), (e, there, w), none_after) | inr k ↦ kept k.0 k.1 last ]
    where
      none_after : (g : Place) (u : ℤ) → More g → WritesAt R g x u → InFlatOrder R c g → ⊥
      none_after g u m w before = elim ((each g).0 m) [
        | inl a ↦ no_loop R h is_list rise c (InFlatOrder-trans R rise before (behind g a))
        | inr same ↦ no_loop R h is_list rise c (subst (λ z. InFlatOrder R c z) same before)
      ]

      kept : ((u : ℤ) → WritesValue e x u → ⊥) → words_past words e x ≡ words x → IsLastWord R Among x (words x) →
          IsLastWord R More x (words_past words e x)
      kept none is (inl l) = inl (
        l.0,
        (each l.0).1 (inl l.1),
        subst (λ v. WritesAt R l.0 x v) (sym is) l.2,
        λ g u m w before. elim ((each g).0 m) [ inl a ↦ l.3 g u a w before | inr same ↦ writes_not R c g e x u there (none u) same w ],
      )
      kept none is (inr n) = inr (
        is ∙ n.0,
        λ g u m w. elim
            ((each g).0 m) [ inl a ↦ n.1 g u a w | inr same ↦ writes_not R c g e x u there (none u) same w ],
      )

  -- one entry writes one value to a variable
  one_value : (rising : (c : Place) (e : Entry) → EntryAt R c e → RisingWrites e) (d : Place) (x : ℕ) (v w : ℤ) → WritesAt R d x v →
      WritesAt R d x w → v ≡ w
  one_value rising d x v w a b =
      let b' : WritesValue a.0 x w = subst (λ f. WritesValue f x w) (same_entry R d b.0 a.0 b.1 a.1) b.2 in
      let r = rising d a.0 a.1 in
      sym (written_word (λ _. pos 0) a.0 x v r a.2) ∙ written_word (λ _. pos 0) a.0 x w r b'

  -- two last words of x among the same places are one
  pub one_word : (rising : (c : Place) (e : Entry) → EntryAt R c e → RisingWrites e) (Among : Place → Type 0) →
      ((d : Place) → Among d → HasBlock R d) →
      (x : ℕ) (v w : ℤ) → IsLastWord R Among x v → IsLastWord R Among x w → v ≡ w
  one_word rising Among has x v w (inl a) (inl b) = elim (compare R h is_list rise a.0 b.0 (has a.0 a.1) (has b.0 b.1)) [
    | inl before ↦ absurd (a.3 b.0 w b.1 b.2 before)
    | inr (inl same) ↦ one_value rising b.0 x v w (subst (λ z. WritesAt R z x v) same a.2) b.2
    | inr (inr before) ↦ absurd (b.3 a.0 v a.1 a.2 before)
  ]
  one_word rising Among has x v w (inl a) (inr b) = absurd (b.1 a.0 v a.1 a.2)
  one_word rising Among has x v w (inr a) (inl b) = absurd (a.1 b.0 w b.1 b.2)
  one_word rising Among has x v w (inr a) (inr b) = a.0 ∙ sym b.0
