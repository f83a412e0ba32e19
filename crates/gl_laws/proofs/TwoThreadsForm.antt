-- The record of two threads is well formed, and its numbers are each once.
use Rattle.std.proofs.Common.{◌≡◌, ◌≢◌, ℕ, zero, suc, ◌+◌, ◌<◌, ◌≤◌, ◌==◌, [], ◌∷◌, length, refl, ap, sym, ◌∙◌, inl, inr, arith, Some, true, false}
use Rattle.std.specs.Prelude.{◌⊎◌, ◌↔◌, pos, ℤ, Bool, Contains}
use Rattle.gl_model.specs.declared.tx.Look.{Look}
use Rattle.gl_model.specs.declared.tx.Number.{Number}
use Rattle.gl_model.specs.Entries.{Entry, Plain, Trim}
use Rattle.gl_model.specs.Records.{Place, EntryAt, position_of}
use Rattle.gl_model.specs.Form.{At, Form, ListForm, EntryForm, IsTrim, IsBegin, IsEnd, IsOver, Draws, LookDraws, NumberDraws, HasRight, Numbered}
use Rattle.gl_laws.proofs.SmallRecords.{at}
use Rattle.gl_laws.proofs.TwoThreads.{B0, F0, FirstWrite, C0, A0, K0, R0, E0, B1, RaisedRead, A1, OtherWrite, K1, E1, O, es0, es1, R, entries0, entries1, each, look, number, only, nothing, bound, drawn_at}
use native.Mathlib.Decide.{ℕ_discrete}

-- the positions of each list
abbrev Spot0 : ℕ → ℕ → Type 0
Spot0 i p = ((i ≤ 1) × (p ≡ i)) ⊎ ((5 ≤ i) × (p + 1 ≡ i))

-- the indices in thread 1's list that have positions, and which
abbrev Spot1 : ℕ → ℕ → Type 0
Spot1 i p = ((i ≡ 0) × (p ≡ 2)) ⊎ ((i ≡ 4) × (p ≡ 3)) ⊎ ((i ≡ 5) × (p ≡ 5))

-- the positions in thread 0's list are those
spots0 : (i : ℕ) (e : Entry) → At es0 i e → (p : ℕ) → position_of e ≡ Some p → Spot0 i p
spots0 = entries0 (λ i e. (p : ℕ) → position_of e ≡ Some p → Spot0 i p)
    (λ p z. let a : 0 ≡ p = cc in inl (omega arith, omega arith)) (λ p z. let a : 1 ≡ p = cc in inl (omega arith, omega arith))
    (λ p z. absurd (cc)) (λ p z. absurd (cc)) (λ p z. absurd (cc))
    (λ p z. let a : 4 ≡ p = cc in inr (omega arith, omega arith)) (λ p z. absurd (cc)) (λ p z. let a : 6 ≡ p = cc
    in inr (omega arith, omega arith)) (λ p z. absurd (cc))

-- the positions in thread 1's list are those
spots1 : (i : ℕ) (e : Entry) → At es1 i e → (p : ℕ) → position_of e ≡ Some p → Spot1 i p
spots1 = entries1 (λ i e. (p : ℕ) → position_of e ≡ Some p → Spot1 i p)
    (λ p z. let a : 2 ≡ p = cc in inl (refl, omega arith)) (λ p z. absurd (cc)) (λ p z. absurd (cc)) (λ p z. absurd (cc))
    (λ p z. let a : 3 ≡ p = cc in inr (inl (refl, omega arith))) (λ p z. let a : 5 ≡ p = cc in inr (inr (refl, omega arith)))
    (λ p z. absurd (cc))

-- the positions rise along thread 0's list
rise0 : (i j p q : ℕ) → i < j → Spot0 i p → Spot0 j q → p < q
rise0 i j p q lt a b = omega arith

-- the positions rise along thread 1's list
rise1 : (i j p q : ℕ) → i < j → Spot1 i p → Spot1 j q → p < q
rise1 i j p q lt a b = omega arith

-- the numbers of each list
abbrev Number0 : ℕ → ℕ → ℕ → Type 0
Number0 i x k = ((x ≡ 5) × (i ≡ 2)) ⊎ ((x ≡ 6) × (i ≡ 4) × (k ≤ 2)) ⊎ ((x ≡ 6) × (i ≡ 5) × (3 ≤ k)) ⊎ ((x ≡ 8) × (i ≡ 6))

-- the numbers in thread 1's list: by index, variable and number
abbrev Number1 : ℕ → ℕ → ℕ → Type 0
Number1 i x k = ((x ≡ 5) × (i ≡ 1) × (k ≤ 1)) ⊎ ((x ≡ 5) × (i ≡ 2) × (2 ≤ k)) ⊎ ((x ≡ 8) × (i ≡ 3)) ⊎ ((x ≡ 6) × (i ≡ 4))

-- what draws neither for a look nor for itself draws nothing
no_draw : {A : Type 0} → ⊥ ⊎ ⊥ → A
no_draw (inl d) = absurd d
no_draw (inr d) = absurd d

-- a numbered plain access draws its own number on its variable, and no other
plain_is : (y n : ℕ) (write : Bool) (v : ℤ) (raised : Bool) (x k : ℕ) → Draws (Plain y n false write v raised) x k → (x ≡ y) × (k ≡ n)
plain_is y n write v raised x k (inl d) = absurd d
plain_is y n write v raised x k (inr d) = (sym d.1, sym d.2)

-- the cached read draws no number
cached_none : (x k : ℕ) → Draws C0 x k → ⊥
cached_none x k (inl d) = d
cached_none x k (inr d) = let z = d.0 in cc

-- an attempt with one look and one number of its own, both on y, draws just those two
tx_is : (y a b : ℕ) (v : ℤ) (x k : ℕ) → ((value : ℤ) × Contains (look y v a ∷ []) (look x value k))
    ⊎ Contains (number y b ∷ []) (number x k) → (x ≡ y) × ((k ≡ a) ⊎ (k ≡ b))
tx_is y a b v x k (inl d) = let e = only (look y v a) (look x d.0 k) d.1
    in (sym (ap (λ (l : Look). l.var) e), inl (sym (ap (λ (l : Look). l.nth) e)))
tx_is y a b v x k (inr d) = let e = only (number y b) (number x k) d
    in (sym (ap (λ (l : Number). l.var) e), inr (sym (ap (λ (l : Number). l.nth) e)))

-- the writing commit draws number 1 of variable 6, and no other
write_is : (x k : ℕ) → Draws K1 x k → (x ≡ 6) × (k ≡ 1)
write_is x k (inl d) = nothing (look x d.0 k) d.1
write_is x k (inr d) = let e = only (number 6 1) (number x k) d in (sym (ap (λ (l : Number). l.var) e), sym (ap (λ (l : Number). l.nth) e))

-- the numbers that thread 0's entries draw are those
numbers0 : (i : ℕ) (e : Entry) → At es0 i e → (x k : ℕ) → Draws e x k → Number0 i x k
numbers0 = entries0 (λ i e. (x k : ℕ) → Draws e x k → Number0 i x k)
    (λ x k d. no_draw d) (λ x k d. no_draw d) (λ x k d. let z = plain_is 5 0 true (pos 7) false x k d in inl (z.0, refl))
    (λ x k d. absurd (cached_none x k d))
    (λ x k d. let z = tx_is 6 0 2 (pos 0) x k d in inr (inl (z.0, refl, (let y = z.1 in omega arith))))
    (λ x k d. let z = tx_is 6 3 4 (pos 3) x k d in inr (inr (inl (z.0, refl, (let y = z.1 in omega arith)))))
    (λ x k d. let z = plain_is 8 1 false (pos 9) false x k d in inr (inr (inr (z.0, refl)))) (λ x k d. no_draw d) (λ x k d. no_draw d)

-- the numbers that thread 1's entries draw are those
numbers1 : (i : ℕ) (e : Entry) → At es1 i e → (x k : ℕ) → Draws e x k → Number1 i x k
numbers1 = entries1 (λ i e. (x k : ℕ) → Draws e x k → Number1 i x k)
    (λ x k d. no_draw d) (λ x k d. let z = plain_is 5 1 false (pos 0) true x k d in inl (z.0, refl, (let y = z.1 in omega arith)))
    (λ x k d. let z = tx_is 5 2 3 (pos 7) x k d in inr (inl (z.0, refl, (let y = z.1 in omega arith))))
    (λ x k d. let z = plain_is 8 0 true (pos 9) false x k d in inr (inr (inl (z.0, refl))))
    (λ x k d. let z = write_is x k d in inr (inr (inr (z.0, refl)))) (λ x k d. no_draw d) (λ x k d. no_draw d)

-- the numbers of a variable rise along thread 0's list
grow0 : (i j x k m : ℕ) → i < j → Number0 i x k → Number0 j x m → k < m
grow0 i j x k m lt a b = omega arith

-- the numbers of a variable rise along thread 1's list
grow1 : (i j x k m : ℕ) → i < j → Number1 i x k → Number1 j x m → k < m
grow1 i j x k m lt a b = omega arith

-- the transactions' own numbers stand behind their looks'
behind_look : (y a b : ℕ) (v : ℤ) → a < b → (x k m : ℕ) (value : ℤ) → Contains (look y v a ∷ []) (look x value k)
    → Contains (number y b ∷ []) (number x m) → k < m
behind_look y a b v lt x k m value l n =
    let ek : a ≡ k = ap (λ (z : Look). z.nth) (only (look y v a) (look x value k) l) in
    let em : b ≡ m = ap (λ (z : Number). z.nth) (only (number y b) (number x m) n) in
    omega arith

-- thread 0's list has no Trim
no_trim0 : (i : ℕ) (e : Entry) → At es0 i e → IsTrim e → ⊥
no_trim0 = entries0 (λ i e. IsTrim e → ⊥) (λ z. z) (λ z. z) (λ z. z) (λ z. z) (λ z. z) (λ z. z) (λ z. z) (λ z. z) (λ z. z)

-- thread 1's list has no Trim
no_trim1 : (i : ℕ) (e : Entry) → At es1 i e → IsTrim e → ⊥
no_trim1 = entries1 (λ i e. IsTrim e → ⊥) (λ z. z) (λ z. z) (λ z. z) (λ z. z) (λ z. z) (λ z. z) (λ z. z)

-- 0 is not 3
three : pos 0 ≢ pos 3
three e = absurd (cc)

-- thread 0's list is well formed
formed0 : ListForm 0 es0
formed0 = record {
  well_formed = entries0 (λ i e. EntryForm 0 e) (λ h. refl) (λ h. absurd h) tt tt (
    record { variables = refl; after_looks = λ x k m value l n. behind_look 6 0 2 (pos 0) (omega arith) x k m value l n },
    (0, (0, omega arith, refl)),
    three,
  )
      (record { variables = refl; after_looks = λ x k m value l n. behind_look 6 3 4 (pos 3) (omega arith) x k m value l n }) tt
      (λ h. refl) tt;
  begins = entries0 (λ i e. (IsTrim e → ⊥) → ((j : ℕ) (f : Entry) → At es0 j f → j < i → IsTrim f) → IsBegin e)
      (λ n b. tt) (λ n b. absurd (b 0 B0 refl (omega arith))) (λ n b. absurd (b 0 B0 refl (omega arith)))
      (λ n b. absurd (b 0 B0 refl (omega arith))) (λ n b. absurd (b 0 B0 refl (omega arith)))
      (λ n b. absurd (b 0 B0 refl (omega arith))) (λ n b. absurd (b 0 B0 refl (omega arith))) (λ n b. absurd (b 0 B0 refl (omega arith)))
      (λ n b. absurd (b 0 B0 refl (omega arith)));
  positions_rise = λ i j p q e f a b lt x y. rise0 i j p q lt (spots0 i e a p x) (spots0 j f b q y);
  numbers_rise = λ i j x k m e f a b lt d g. grow0 i j x k m lt (numbers0 i e a x k d) (numbers0 j f b x m g);
  lows_rise = λ i j low high a b lt. absurd (no_trim0 i (Trim low) a tt);
  over_after_end = λ i e f a b. over i e a f b;
  nothing_after = entries0 (λ i e. IsOver e → length es0 ≡ i + 1) (λ o. absurd o) (λ o. absurd o) (λ o. absurd o) (λ o. absurd o)
      (λ o. absurd o) (λ o. absurd o) (λ o. absurd o) (λ o. absurd o) (λ o. refl);
  cached = λ i x k write value a. right i (Plain x k true write value false) a x k write value refl;
}
  where
    over : (i : ℕ) (e : Entry) → At es0 i e → (f : Entry) → At es0 (i + 1) f → IsEnd e ↔ IsOver f
    over = entries0 (λ i e. (f : Entry) → At es0 (i + 1) f → IsEnd e ↔ IsOver f)
        (λ f b. let s : F0 ≡ f = cc in rw (sym s) (λ z. z, λ z. z)) (λ f b. let s : FirstWrite ≡ f = cc in rw (sym s) (λ z. z, λ z. z))
        (λ f b. let s : C0 ≡ f = cc in rw (sym s) (λ z. z, λ z. z))
        (λ f b. let s : A0 ≡ f = cc in rw (sym s) (λ z. z, λ z. z)) (λ f b. let s : K0 ≡ f = cc in rw (sym s) (λ z. z, λ z. z))
        (λ f b. let s : R0 ≡ f = cc in rw (sym s) (λ z. z, λ z. z))
        (λ f b. let s : E0 ≡ f = cc in rw (sym s) (λ z. z, λ z. z)) (λ f b. let s : O ≡ f = cc in rw (sym s) (λ z. tt, λ z. tt))
        (λ f b. absurd (cc))

    right : (i : ℕ) (e : Entry) → At es0 i e → (x k : ℕ) (write : Bool) (value : ℤ) → e ≡ Plain x k true write value false
        → HasRight es0 i x k write
    right = entries0 (λ i e. (x k : ℕ) (write : Bool) (value : ℤ) → e ≡ Plain x k true write value false → HasRight es0 i x k write)
        (λ x k w v e. absurd (cc)) (λ x k w v e. absurd (cc)) (λ x k w v e. absurd (cc))
        (λ x k w v e. let a : 5 ≡ x = cc in let b : 0 ≡ k = cc in let c : false ≡ w = cc in rw (sym a, sym b, sym c)
        (record {
          index = 2;
          entry = FirstWrite;
          there = refl;
          before = omega arith;
          by_write = true;
          gives = (refl, refl, refl, refl, refl);
          enough = λ z. (cc);
          no_event = λ j f m l n. absurd (omega arith);
          latest = λ j m f z q l n. absurd (omega arith);
        }))
        (λ x k w v e. absurd (cc)) (λ x k w v e. absurd (cc)) (λ x k w v e. absurd (cc)) (λ x k w v e. absurd (cc))
        (λ x k w v e. absurd (cc))

-- thread 1's list is well formed
formed1 : ListForm 1 es1
formed1 = record {
  well_formed = entries1 (λ i e. EntryForm 1 e) (λ h. absurd (omega arith)) (refl, λ w. refl)
      (record { variables = refl; after_looks = λ x k m value l n. behind_look 5 2 3 (pos 7) (omega arith) x k m value l n }) tt
      (record { variables = refl; after_looks = λ x k m value l n. nothing (look x value k) l }) (λ h. refl) tt;
  begins = entries1 (λ i e. (IsTrim e → ⊥) → ((j : ℕ) (f : Entry) → At es1 j f → j < i → IsTrim f) → IsBegin e)
      (λ n b. tt) (λ n b. absurd (b 0 B1 refl (omega arith))) (λ n b. absurd (b 0 B1 refl (omega arith)))
      (λ n b. absurd (b 0 B1 refl (omega arith))) (λ n b. absurd (b 0 B1 refl (omega arith)))
      (λ n b. absurd (b 0 B1 refl (omega arith))) (λ n b. absurd (b 0 B1 refl (omega arith)));
  positions_rise = λ i j p q e f a b lt x y. rise1 i j p q lt (spots1 i e a p x) (spots1 j f b q y);
  numbers_rise = λ i j x k m e f a b lt d g. grow1 i j x k m lt (numbers1 i e a x k d) (numbers1 j f b x m g);
  lows_rise = λ i j low high a b lt. absurd (no_trim1 i (Trim low) a tt);
  over_after_end = λ i e f a b. over i e a f b;
  nothing_after = entries1 (λ i e. IsOver e → length es1 ≡ i + 1) (λ o. absurd o) (λ o. absurd o) (λ o. absurd o) (λ o. absurd o)
      (λ o. absurd o) (λ o. absurd o) (λ o. refl);
  cached = λ i x k write value a. absurd (no_cached i (Plain x k true write value false) a x k write value refl);
}
  where
    over : (i : ℕ) (e : Entry) → At es1 i e → (f : Entry) → At es1 (i + 1) f → IsEnd e ↔ IsOver f
    over = entries1 (λ i e. (f : Entry) → At es1 (i + 1) f → IsEnd e ↔ IsOver f)
        (λ f b. let s : RaisedRead ≡ f = cc in rw (sym s) (λ z. z, λ z. z)) (λ f b. let s : A1 ≡ f = cc in rw (sym s) (λ z. z, λ z. z))
        (λ f b. let s : OtherWrite ≡ f = cc in rw (sym s) (λ z. z, λ z. z))
        (λ f b. let s : K1 ≡ f = cc in rw (sym s) (λ z. z, λ z. z)) (λ f b. let s : E1 ≡ f = cc in rw (sym s) (λ z. z, λ z. z))
        (λ f b. let s : O ≡ f = cc in rw (sym s) (λ z. tt, λ z. tt)) (λ f b. absurd (cc))

    no_cached : (i : ℕ) (e : Entry) → At es1 i e → (x k : ℕ) (write : Bool) (value : ℤ) → e ≡ Plain x k true write value false → ⊥
    no_cached = entries1 (λ i e. (x k : ℕ) (write : Bool) (value : ℤ) → e ≡ Plain x k true write value false → ⊥)
        (λ x k w v e. cc) (λ x k w v e. cc) (λ x k w v e. cc) (λ x k w v e. cc) (λ x k w v e. cc) (λ x k w v e. cc) (λ x k w v e. cc)

-- an empty list is well formed
empty_formed : (t : ℕ) → ListForm t []
empty_formed t = record {
  well_formed = λ i e a. absurd (cc);
  begins = λ i e a n b. absurd (cc);
  positions_rise = λ i j p q e f a b lt x y. absurd (cc);
  numbers_rise = λ i j x k m e f a b lt d g. absurd (cc);
  lows_rise = λ i j low high a b lt. absurd (cc);
  over_after_end = λ i e f a b. absurd (cc);
  nothing_after = λ i e a o. absurd (cc);
  cached = λ i x k write value a. absurd (cc);
}

-- the record is well formed
pub form : Form R
form = record { main = λ e. (let z : length es0 ≡ 0 = ap length e in absurd (omega arith)); formed = all; ends = ends }
  where
    all : (t : ℕ) → ListForm t (R t)
    all zero = formed0
    all (suc zero) = formed1
    all (suc (suc t)) = empty_formed (suc (suc t))

    ends : (t : ℕ) → R t ≢ [] → (i : ℕ) × ((e : Entry) × At (R t) i e × IsOver e)
    ends zero ne = (8, (O, refl, tt))
    ends (suc zero) ne = (6, (O, refl, tt))
    ends (suc (suc t)) ne = absurd (ne refl)

-- each number of variable 5 below 4 was drawn
draws_5 : (k : ℕ) → k < 4 → (c : Place) × ((e : Entry) × EntryAt R c e × Draws e 5 k)
draws_5 zero lt = (at 0 2, (FirstWrite, refl, inr (refl, refl, refl)))
draws_5 (suc zero) lt = (at 1 1, (RaisedRead, refl, inr (refl, refl, refl)))
draws_5 (suc (suc zero)) lt = (at 1 2, (A1, refl, inl (pos 7, (0, omega arith, refl))))
draws_5 (suc (suc (suc zero))) lt = (at 1 2, (A1, refl, inr (0, omega arith, refl)))
draws_5 (suc (suc (suc (suc k)))) lt = absurd (omega arith)

-- each number of variable 6 below 5 was drawn
draws_6 : (k : ℕ) → k < 5 → (c : Place) × ((e : Entry) × EntryAt R c e × Draws e 6 k)
draws_6 zero lt = (at 0 4, (A0, refl, inl (pos 0, (0, omega arith, refl))))
draws_6 (suc zero) lt = (at 1 4, (K1, refl, inr (0, omega arith, refl)))
draws_6 (suc (suc zero)) lt = (at 0 4, (A0, refl, inr (0, omega arith, refl)))
draws_6 (suc (suc (suc zero))) lt = (at 0 5, (K0, refl, inl (pos 3, (0, omega arith, refl))))
draws_6 (suc (suc (suc (suc zero)))) lt = (at 0 5, (K0, refl, inr (0, omega arith, refl)))
draws_6 (suc (suc (suc (suc (suc k))))) lt = absurd (omega arith)

-- each number of variable 8 below 2 was drawn
draws_8 : (k : ℕ) → k < 2 → (c : Place) × ((e : Entry) × EntryAt R c e × Draws e 8 k)
draws_8 zero lt = (at 1 3, (OtherWrite, refl, inr (refl, refl, refl)))
draws_8 (suc zero) lt = (at 0 6, (R0, refl, inr (refl, refl, refl)))
draws_8 (suc (suc k)) lt = absurd (omega arith)

-- each number of a variable below its bound was drawn
draws_below : (x k : ℕ) → k < bound x → (c : Place) × ((e : Entry) × EntryAt R c e × Draws e x k)
draws_below x k lt = elim (ℕ_discrete x 5) [
  | yes e ↦ rw e (draws_5 k (rw e at lt))
  | no n5 ↦ elim (ℕ_discrete x 6) [
    | yes e ↦ rw e (draws_6 k (rw e at lt))
    | no n6 ↦ elim (ℕ_discrete x 8) [
      | yes e ↦ rw e (draws_8 k (rw e at lt))
      | no n8 ↦ absurd (let z : k < 0 = rw (other_false x 5 n5, other_false x 6 n6, other_false x 8 n8) at lt in omega arith)
    ]
  ]
]
  where
    other_false : (t k : ℕ) → t ≢ k → (t == k) ≡ false
    other_false t k ne = Rattle.gl_model.proofs.ListsOf.other_false t k ne

-- a look's number is not its transaction's own
apart : (c : Place) (e : Entry) → EntryAt R c e → (k x : ℕ) → LookDraws e x k → NumberDraws e x k → ⊥
apart = each (λ c e. (k x : ℕ) → LookDraws e x k → NumberDraws e x k → ⊥)
    (λ k x l n. l) (λ k x l n. l) (λ k x l n. l) (λ k x l n. l)
    (λ k x l n. let lt = behind_look 6 0 2 (pos 0) (omega arith) x k k l.0 l.1 n in omega arith)
    (λ k x l n. let lt = behind_look 6 3 4 (pos 3) (omega arith) x k k l.0 l.1 n in omega arith) (λ k x l n. l) (λ k x l n. l)
    (λ k x l n. l)
    (λ k x l n. l) (λ k x l n. l) (λ k x l n. let lt = behind_look 5 2 3 (pos 7) (omega arith) x k k l.0 l.1 n in omega arith)
    (λ k x l n. l) (λ k x l n. nothing (look x l.0 k) l.1) (λ k x l n. l) (λ k x l n. l)

-- the numbers of each variable are drawn without a gap, each once
pub numbered : Numbered R
numbered x = (
  bound x,
  record {
    below = λ c e k a d. (drawn_at c e a x k d).1;
    drawn = λ k lt. draws_below x k lt;
    once = λ c d e f k a b x' y. (drawn_at c e a x k x').0 ∙ sym (drawn_at d f b x k y).0;
    apart = λ c e k a l n. apart c e a k x l n;
  },
)
