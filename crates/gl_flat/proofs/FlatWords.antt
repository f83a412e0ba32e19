-- The words along a flat history are the last words before each of its places.
use Rattle.std.proofs.Common.{◌≡◌, ℕ, zero, suc, ◌<◌, ◌≤◌, List, length, refl, ap, subst, sym, ◌∙◌, inl, inr, arith, Some, true, false}
use Rattle.std.specs.Prelude.{◌⊎◌, ◌↔◌, ℤ, pos, Option, slice_get}
use Rattle.std.proofs.lemmas.Bool.{cases_lt}
use Rattle.std.proofs.lemmas.Option.{slice_get_within, slice_get_cases}
use Rattle.std.proofs.Math.Nat.{eq-or-lt_of_le}
use native.Mathlib.Decide.{ℕ_discrete}
use Rattle.gl_model.specs.declared.event.Stamp.{Stamp}
use Rattle.gl_model.specs.Entries.{Entry, Sync, Commit, Plain, Abort, Trim, Over}
use Rattle.gl_model.specs.Flat.{InFlatOrder, IsFlat, IsLaidOut, WritesValue}
use Rattle.gl_model.specs.Records.{Lists, Place, EntryAt, IsEventList, PositionsRise}
use Rattle.gl_laws.proofs.FlatLaws.{InFlatOrder-trans}
use Rattle.gl_laws.proofs.Histories.{RisingWrites, entry_of, words_after, words_more, write_into}
use Rattle.gl_flat.specs.Walk.{words_past}
use Rattle.gl_flat.specs.Words.{IsLastWord, IsWordAt, ReadsValue, WritesAt}
use Rattle.gl_flat.proofs.FlatList.{IsLaidOutAt, at_contains, contains_at}
use Rattle.gl_flat.proofs.FlatOrder.{no_loop}
use Rattle.gl_flat.proofs.LastWords.{one_word, word_among, word_more}

-- what writes or reads is laid out
writes_laid : (e : Entry) (x : ℕ) (v : ℤ) → WritesValue e x v → IsLaidOut e
writes_laid (Plain var nth cached write value raised) x v w = w.0
writes_laid (Commit at tx) x v w = tt
writes_laid (Sync at act value) x v w = tt
writes_laid (Abort tx why) x v w = w
writes_laid (Trim low) x v w = w
writes_laid (Over ending) x v w = w

-- what reads a value is laid out
pub reads_laid : (e : Entry) (x : ℕ) (v : ℤ) → ReadsValue e x v → IsLaidOut e
reads_laid (Plain var nth cached write value raised) x v w = w.0
reads_laid (Commit at tx) x v w = tt
reads_laid (Sync at act value) x v w = tt
reads_laid (Abort tx why) x v w = w
reads_laid (Trim low) x v w = w
reads_laid (Over ending) x v w = w

-- where a write stands, an entry is laid out
pub writes_laid_at : (R : Lists) (c : Place) (x : ℕ) (v : ℤ) → WritesAt R c x v → IsLaidOutAt R c
writes_laid_at R c x v w = (w.0, w.1, writes_laid w.0 x v w.2)

-- what a laid-out entry writes
pub past_of_laid : (words : ℕ → ℤ) (e : Entry) (x : ℕ) → IsLaidOut e → write_into words (Some e) x ≡ words_past words e x
unfolding write_into
past_of_laid words (Plain var nth cached true value false) x laid = refl
past_of_laid words (Plain var nth cached true value true) x laid = absurd (cc)
past_of_laid words (Plain var nth cached false value raised) x laid = refl
past_of_laid words (Commit at tx) x laid = refl
past_of_laid words (Sync at act value) x laid = refl
past_of_laid words (Abort tx why) x laid = refl
past_of_laid words (Trim low) x laid = refl
past_of_laid words (Over ending) x laid = refl

module _ (R : Lists) (h : List Stamp) (is_list : IsEventList h R) (rise : PositionsRise R) (cs : List Place) (flat : IsFlat R cs) where
  -- at each place of the history stands an entry that is laid out
  pub laid_in : (k : ℕ) (c : Place) → slice_get cs k ≡ Some c → IsLaidOutAt R c
  laid_in k c at = (flat.each c).0 (contains_at cs k c at)

  -- the first k places
  abbrev pub Among : ℕ → Place → Type 0
  Among k d = (j : ℕ) × (j < k) × (slice_get cs j ≡ Some d)

  -- where c stands at k in the history, its first k + 1 places are the first k and c
  among_more : (k : ℕ) (c : Place) → slice_get cs k ≡ Some c → (d : Place) → Among (suc k) d ↔ (Among k d ⊎ (d ≡ c))
  among_more k c at d = (to, from)
    where
      to : Among (suc k) d → Among k d ⊎ (d ≡ c)
      to (j, lt, there) = elim (ℕ_discrete j k) [
        | yes same ↦ inr (let z : Some d ≡ Some c = sym there ∙ subst (λ n. slice_get cs n ≡ Some c) (sym same) at in cc)
        | no ne ↦ inl (j, (omega arith), there)
      ]

      from : Among k d ⊎ (d ≡ c) → Among (suc k) d
      from (inl (j, lt, there)) = (j, (omega arith), there)
      from (inr same) = (k, (omega arith), at ∙ ap Some (sym same))

  -- each of the first k places of the history is before the place at k in flat order
  among_before : (k : ℕ) (c : Place) → slice_get cs k ≡ Some c → (d : Place) → Among k d → InFlatOrder R d c
  among_before k c at d (j, lt, there) = flat.in_order j k d c there at lt

  -- a laid-out place that is before the place at k in flat order is one of the first k
  before_among : (k : ℕ) (c : Place) → slice_get cs k ≡ Some c → (d : Place) → IsLaidOutAt R d → InFlatOrder R d c → Among k d
  before_among k c at d laid before = by (at_contains cs d ((flat.each d).1 laid))
    where
      by : (j : ℕ) × (slice_get cs j ≡ Some d) → Among k d
      by (j, there) = elim (cases_lt j k) [
        | inl lt ↦ (j, lt, there)
        | inr ge ↦ elim (eq-or-lt_of_le ge) [
          | inl same ↦ absurd (let z : Some d ≡ Some c = sym there ∙ subst (λ n. slice_get cs n ≡ Some c) same at in let s : d ≡ c = cc in
              no_loop R h is_list rise c (subst (λ y. InFlatOrder R y c) s before))
          | inr gt ↦ absurd (no_loop R h is_list rise c (InFlatOrder-trans R rise (flat.in_order k j c d at there gt) before))
        ]
      ]

  -- where the words are the last ones among the first k places, the words past the entry at k are those among the first k + 1
  pub step_word : (k : ℕ) (c : Place) (e : Entry) (words : ℕ → ℤ) (x : ℕ) → slice_get cs k ≡ Some c → EntryAt R c e →
      IsLastWord R (Among k) x (words x) → IsLastWord R (Among (suc k)) x (words_past words e x)
  step_word k c e words x at there last = word_more R h is_list rise (Among k) (Among (suc k)) c e words x there (among_before k c at)
      (among_more k c at) last

  -- before the first place of the history each word is 0
  pub first_word : (x : ℕ) → IsLastWord R (Among 0) x (pos 0)
  first_word x = inr (refl, λ g u m w. let z = m.1 in omega arith)

  -- the last word of x among the first k places of the history is the word of x where the place at k is laid out
  pub word_at : (k : ℕ) (c : Place) (x : ℕ) (v : ℤ) → slice_get cs k ≡ Some c → IsLastWord R (Among k) x v → IsWordAt R c x v
  word_at k c x v at last = word_among R (Among k) (λ d. InFlatOrder R d c) x v (among_before k c at)
      (λ d u before w. before_among k c at d (writes_laid_at R d x u w) before) last

  -- the words after the first k places
  abbrev pub words : ℕ → ℕ → ℤ
  words k = words_after R cs k (λ _. pos 0)

  -- the words after the first k places of the history are the last ones that were written among these places, or 0
  pub words_are : (k : ℕ) → k ≤ length cs → (x : ℕ) → IsLastWord R (Among k) x (words k x)
  unfolding words_after entry_of
  words_are zero le x = first_word x
  words_are (suc k) le x = elim ((slice_get_cases cs k).1) [
    | inr w ↦ absurd (let z = w.0 in omega arith)
    | inl w ↦
        here w.0 w.2 (laid_in k w.0 w.2) (words_are k (omega arith) x)
  ]
    where
      here : (c : Place) → slice_get cs k ≡ Some c → IsLaidOutAt R c → IsLastWord R (Among k) x (words k x) →
          IsLastWord R (Among (suc k)) x (words (suc k) x)
      here c at (e, there, laid) before =
          let is : words (suc k) x ≡ words_past (words k) e x =
          ap (λ (f : ℕ → ℤ). f x) (words_more R cs k c (λ _. pos 0) at) ∙
          (ap (λ (o : Option Entry). write_into (words k) o x) there ∙ past_of_laid (words k) e x laid) in
          subst (IsLastWord R (Among (suc k)) x) (sym is) (step_word k c e (words k) x at there before)

  module _ (rising : (c : Place) (e : Entry) → EntryAt R c e → RisingWrites e) where
    -- the word where a place is laid out is that of its place in the history
    pub word_is : (k : ℕ) (c : Place) (x : ℕ) (v : ℤ) → slice_get cs k ≡ Some c → IsWordAt R c x v → v ≡ words k x
    word_is k c x v at w = one_word R h is_list rise rising (λ d. InFlatOrder R d c) (λ d f. (f.first, f.of_first)) x v (words k x) w
        (word_at k c x (words k x) at (words_are k (let n = slice_get_within cs k c at in omega arith) x))
