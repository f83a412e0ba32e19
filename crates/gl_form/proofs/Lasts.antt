-- The last number goes on from one entry to the next.
use Rattle.std.proofs.Common.{◌≡◌, ℕ, ◌+◌, ◌<◌, ◌≤◌, List, Option, Some, None, refl, sym, arith, inl, inr}
use Rattle.std.specs.Prelude.{◌⊎◌}
use Rattle.std.proofs.lemmas.Bool.{cases_lt}
use Rattle.gl_model.specs.Entries.{Entry}
use Rattle.gl_model.specs.Records.{At}
use Rattle.gl_form.specs.Passed.{IsAbove, IsLast}
use Rattle.gl_form.specs.Rules.{RisesAt}

-- two entries of one place are one
pub same_entry : (es : List Entry) (i j : ℕ) (e f : Entry) → At es i e → At es j f → j ≡ i → f ≡ e
same_entry es i j e f at also same = (let there : At es i f = rw (sym same) also in cc)

-- a place before the next one is before this one or is it
pub before_next : (i j : ℕ) → j < i + 1 → (j < i) ⊎ (j ≡ i)
before_next i j less = elim (cases_lt j i) [ inl lt ↦ inl lt | inr ge ↦ inr (omega arith) ]

module _ (Has : Entry → ℕ → Type 0) (es : List Entry) (i : ℕ) (e : Entry) (at : At es i e) where
  -- where all numbers of the entry are above the last one, they rise there
  pub risen : (last : Option ℕ) → IsLast Has es i last → ((m : ℕ) → Has e m → IsAbove last m) → RisesAt Has es i
  risen None none above j k m f g there here before of_f of_g = absurd (none j k f there before of_f)
  risen (Some n) is above j k m f g there here before of_f of_g =
      let same : g ≡ e = same_entry es i i e g at here refl in
      let mine : Has e m = rw (sym same) of_g in
      let less : n < m = above m mine in
      let most = is.most j k f there before of_f in
      omega arith

  -- where a number of the entry is not above the last one, numbers do not rise at place i
  pub fallen : (last : Option ℕ) → IsLast Has es i last → (k : ℕ) → Has e k → (IsAbove last k → ⊥) → RisesAt Has es i → ⊥
  fallen None none k has not_above rises = not_above tt
  fallen (Some n) is k has not_above rises = not_above (rises is.index n k is.entry e is.there at is.before is.has has)

  -- an entry without a number leaves the last one as it is
  pub none_more : (last : Option ℕ) → IsLast Has es i last → ((m : ℕ) → Has e m → ⊥) → IsLast Has es (i + 1) last
  none_more None none nothing = λ j m f there before of_f. elim (before_next i j before) [
    | inl less ↦ none j m f there less of_f
    | inr same ↦ (let is : f ≡ e = same_entry es i j e f at there same in nothing m (rw (sym is) of_f))
  ]
  none_more (Some n) is nothing = record {
    index = is.index;
    entry = is.entry;
    there = is.there;
    before = (let less = is.before in omega arith);
    has = is.has;
    most = λ j m f there before of_f. elim (before_next i j before) [
      | inl less ↦ is.most j m f there less of_f
      | inr same ↦ (let one : f ≡ e = same_entry es i j e f at there same in absurd (nothing m (rw (sym one) of_f)))
    ];
  }

  -- the greatest of its numbers, where it is above the last one, is the last one next
  pub one_more :
      (last : Option ℕ) → IsLast Has es i last → (k : ℕ) → Has e k → ((m : ℕ) → Has e m → m ≤ k) → IsAbove last k →
      IsLast Has es (i + 1) (Some k)
  one_more last is k has most above = record {
    index = i;
    entry = e;
    there = at;
    before = omega arith;
    has = has;
    most = λ j m f there before of_f. elim (before_next i j before) [
      | inl less ↦ at_most last is above j m f there less of_f
      | inr same ↦ (let one : f ≡ e = same_entry es i j e f at there same in most m (rw (sym one) of_f))
    ];
  } where
    -- where k is above the last number before place i, each number that an entry before it has is at most k
    at_most : (last : Option ℕ) → IsLast Has es i last → IsAbove last k → (j m : ℕ) (f : Entry) → At es j f → j < i → Has f m → m ≤ k
    at_most None none above j m f there before of_f = absurd (none j m f there before of_f)
    at_most (Some n) is above j m f there before of_f = (let most' = is.most j m f there before of_f in let less : n < k = above in
        omega arith)
