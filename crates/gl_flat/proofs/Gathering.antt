-- The performed writes of a record, gathered entry by entry.
use Rattle.std.proofs.Common.{◌≡◌, ℕ, zero, suc, ◌+◌, ◌<◌, ◌≤◌, List, [], ◌∷◌, ◌++◌, map, take, refl, ap, subst, sym, ◌∙◌, inl, inr, arith, Some, None, true, false, add-one, append_assoc}
use Rattle.std.specs.Prelude.{◌↔◌, ◌==◌, Contains, Option, slice_get, IsPermutation}
use Rattle.std.specs.List.{find, flat_map}
use Rattle.std.proofs.lemmas.List.Sorted.{Contains-permutation, IsPermutation-sym}
use native.Mathlib.Decide.{ℕ_discrete}
use Rattle.gl_model.specs.declared.limits.TheConstants.{THREADS}
use Rattle.gl_model.specs.declared.tx.Number.{Number}
use Rattle.gl_model.specs.declared.tx.Pair.{Pair}
use Rattle.gl_model.specs.Entries.{Entry, Sync, Commit, Plain, Abort, Trim, Over}
use Rattle.gl_model.specs.Flat.{IsWritten, WritesValue}
use Rattle.gl_model.specs.Kept.{IsEntryKept, IsRecord}
use Rattle.gl_model.specs.Lists.{lists_of}
use Rattle.gl_model.specs.Records.{Lists, Place, EntryAt, NumberOn}
use Rattle.gl_model.specs.Rising.{Rises}
use Rattle.gl_flat.specs.declared.writes.Written.{Written}
use Rattle.gl_flat.specs.Below.{AreWrites, with_number, written_by, written_in}
use Rattle.gl_flat.proofs.KeptEntries.{kept_at, thread_at}
use Rattle.gl_flat.proofs.Members.{In, append_back, append_front, contains_in, flat_in, found_is, found_one, in_append, in_contains, in_flat}

-- the first i + 1 writes of a transaction, with their numbers, are the first i with theirs and then the one at i
pub written_more : (ns : List Number) (ws : List Pair) (i : ℕ) (w : Pair) → slice_get ws i ≡ Some w →
    written_in ns (take (suc i) ws) ≡ written_in ns (take i ws) ++ with_number w (find (λ n. n.var == w.var) ns)
written_more ns [] i w at = absurd (cc)
written_more ns (v ∷ ws) zero w at = let same : v ≡ w = cc in rw same (append_none (with_number w (find (λ n. n.var == w.var) ns)))
  where
    append_none : (xs : List Written) → xs ++ [] ≡ xs
    append_none [] = refl
    append_none (x ∷ xs) = ap (λ ys. x ∷ ys) (append_none xs)
written_more ns (v ∷ ws) (suc i) w at =
    ap (λ ys. with_number v (find (λ n. n.var == v.var) ns) ++ ys) (written_more ns ws i w at)
    ∙ sym (append_assoc (with_number v (find (λ n. n.var == v.var) ns)) (written_in ns (take i ws))
    (with_number w (find (λ n. n.var == w.var) ns)))

-- a transaction's next write is put after those gathered, with its number, if it has one
pub add_more : (ns : List Number) (ws : List Pair) (i : ℕ) (w : Pair) (o : Option Number) (first old new : List Written) →
    slice_get ws i ≡ Some w → o ≡ find (λ n. n.var == w.var) ns →
    old ≡ first ++ written_in ns (take i ws) → new ≡ old ++ with_number w o → new ≡ first ++ written_in ns (take (i + 1) ws)
add_more ns ws i w o first old new at is so_far added =
    added ∙ ap (λ xs. xs ++ with_number w o) so_far ∙ append_assoc first (written_in ns (take i ws)) (with_number w o)
    ∙ ap (λ p. first ++ (written_in ns (take i ws) ++ with_number w p)) is ∙ ap (λ xs. first ++ xs) (sym (written_more ns ws i w at))
    ∙ ap (λ n. first ++ written_in ns (take n ws)) (sym (add-one i))

-- what is made of each element as it is seen, put together, is what is made of the elements of the seen list
pub flat_seen : {A B C : Type 0} (f : A → B) (g : B → List C) (xs : List A) → flat_map (λ x. g (f x)) xs ≡ flat_map g (map f xs)
flat_seen f g [] = refl
flat_seen f g (x ∷ xs) = ap (λ ys. g (f x) ++ ys) (flat_seen f g xs)

-- a write with a number is put with that number
numbered : (w : Pair) (o : Option Number) (x : Written) → In (with_number w o) x → (n : Number) × (o ≡ Some n) ×
    (record { var = w.var; nth = n.nth; value = w.value } ≡ x)
numbered w None x i = absurd i
numbered w (Some n) x (inl e) = (n, refl, e)
numbered w (Some n) x (inr i) = absurd i

-- a write that was gathered of a transaction has its number and its value from it
of_tx : (ns : List Number) (ws : List Pair) (x : Written) → In (written_in ns ws) x → In ns (record { var = x.var; nth = x.nth }) ×
    In ws (record { var = x.var; value = x.value })
of_tx ns [] x i = absurd i
of_tx ns (w ∷ ws) x i = elim (in_append (with_number w (find (λ n. n.var == w.var) ns)) (written_in ns ws) x i) [
  | inr j ↦ (let r = of_tx ns ws x j in (r.0, inr r.1))
  | inl j ↦
      (let q = numbered w (find (λ n. n.var == w.var) ns) x j in
      let f = found_is ns w.var q.0 q.1 in
      let var : w.var ≡ x.var = ap (λ (z : Written). z.var) q.2 in
      let nth : q.0.nth ≡ x.nth = ap (λ (z : Written). z.nth) q.2 in
      let value : w.value ≡ x.value = ap (λ (z : Written). z.value) q.2 in
      let number : q.0 ≡ record { var = x.var; nth = x.nth } = λ k. record { var = (f.1 ∙ var) k; nth = nth k } in
      (subst (In ns) number f.0, inl (λ k. record { var = var k; value = value k })))
]

-- what has its number and its value from a transaction is gathered, where the numbers rise by variable
to_tx : (ns : List Number) (ws : List Pair) (x : Written) → Rises (map (λ n. n.var) ns) → In ns (record { var = x.var; nth = x.nth }) →
    In ws (record { var = x.var; value = x.value }) → In (written_in ns ws) x
to_tx ns [] x rises n i = absurd i
to_tx ns (w ∷ ws) x rises n (inr i) = append_back (with_number w (find (λ m. m.var == w.var) ns)) (written_in ns ws) x
    (to_tx ns ws x rises n i)
to_tx ns (w ∷ ws) x rises n (inl e) = append_front (with_number w (find (λ m. m.var == w.var) ns)) (written_in ns ws) x
    (subst (λ (z : Pair). In (with_number z (find (λ m. m.var == z.var) ns)) x) (sym e) here)
  where
    here : In (with_number (record { var = x.var; value = x.value }) (find (λ m. m.var == x.var) ns)) x
    here = subst (λ o. In (with_number (record { var = x.var; value = x.value }) o) x)
        (sym (found_one ns (record { var = x.var; nth = x.nth }) rises n)) (inl refl)

-- the performed writes of an entry are what it wrote with its numbers
pub of_entry : (e : Entry) (x : Written) → In (written_by e) x → NumberOn e x.var x.nth × WritesValue e x.var x.value
of_entry (Plain var nth cached true value false) x (inl e) = (
  (ap (λ (z : Written). z.var) e, ap (λ (z : Written). z.nth) e),
  (refl, ap (λ (z : Written). z.var) e, refl, ap (λ (z : Written). z.value) e),
)
of_entry (Plain var nth cached true value false) x (inr i) = absurd i
of_entry (Plain var nth cached true value true) x i = absurd i
of_entry (Plain var nth cached false value raised) x i = absurd i
of_entry (Commit at tx) x i = let r = of_tx tx.numbers tx.writes x i in
    (in_contains tx.numbers (record { var = x.var; nth = x.nth }) r.0, in_contains tx.writes (record { var = x.var; value = x.value }) r.1)
of_entry (Sync at act value) x i = absurd i
of_entry (Abort tx why) x i = absurd i
of_entry (Trim low) x i = absurd i
of_entry (Over ending) x i = absurd i

-- each value that an entry writes is gathered, with the number that it has there
pub to_entry : (e : Entry) (x : Written) → IsEntryKept e → NumberOn e x.var x.nth → WritesValue e x.var x.value → In (written_by e) x
to_entry (Plain var nth cached true value false) x kept n w = inl (λ k. record { var = n.0 k; nth = n.1 k; value = w.3 k })
to_entry (Plain var nth cached true value true) x kept n w = absurd (let z = w.0 in cc)
to_entry (Plain var nth cached false value raised) x kept n w = absurd (let z = w.2 in cc)
to_entry (Commit at tx) x kept n w = to_tx tx.numbers tx.writes x kept.2.1 (contains_in tx.numbers (record { var = x.var; nth = x.nth }) n)
    (contains_in tx.writes (record { var = x.var; value = x.value }) w)
to_entry (Sync at act value) x kept n w = absurd w
to_entry (Abort tx why) x kept n w = absurd w
to_entry (Trim low) x kept n w = absurd w
to_entry (Over ending) x kept n w = absurd w

-- written by a thread below this one
abbrev pub WrittenBelow : Lists → ℕ → Written → Type 0
WrittenBelow R t x = (c : Place) × (c.thread < t) × ((e : Entry) × EntryAt R c e × In (written_by e) x)

-- these are the performed writes of the threads below t
abbrev pub AreWritesBelow : Lists → ℕ → List Written → Type 0
AreWritesBelow R t ws = (x : Written) → In ws x ↔ WrittenBelow R t x

-- the performed writes of the threads below 0 are none
pub none_written : (R : Lists) → AreWritesBelow R 0 []
none_written R x = (λ i. absurd i, λ w. let z = w.1 in omega arith)

-- the performed writes of the threads below t, and those of the list of thread t, are those of the threads below t + 1
pub written_next : (R : Lists) (t : ℕ) (ws : List Written) → AreWritesBelow R t ws →
    AreWritesBelow R (t + 1) (ws ++ flat_map written_by (R t))
written_next R t ws are x = (to, from)
  where
    to : In (ws ++ flat_map written_by (R t)) x → WrittenBelow R (t + 1) x
    to i = elim (in_append ws (flat_map written_by (R t)) x i) [
      | inl j ↦ (let w = (are x).0 j in (w.0, (let z = w.1 in omega arith), w.2))
      | inr j ↦ (let r = in_flat written_by (R t) x j in (record { thread = t; index = r.0 }, (omega arith), (r.1.0, r.1.1, r.1.2)))
    ]

    from : WrittenBelow R (t + 1) x → In (ws ++ flat_map written_by (R t)) x
    from (c, lt, (e, there, i)) = elim (ℕ_discrete c.thread t) [
      | yes same ↦ append_back ws (flat_map written_by (R t)) x
          (flat_in written_by (R t) c.index e x (subst (λ u. slice_get (R u) c.index ≡ Some e) same there) i)
      | no ne ↦ append_front ws (flat_map written_by (R t)) x ((are x).1 (c, omega arith, (e, there, i)))
    ]

-- those of all threads, in any order, are the performed writes of the record
pub all_written : (made : List (ℕ × List Entry)) → IsRecord made → (t : ℕ) → THREADS ≤ t → (ws sorted : List Written) →
    AreWritesBelow (lists_of made) t ws → IsPermutation ws sorted → AreWrites (lists_of made) sorted
all_written made record' t far ws sorted are moved x = (to, from)
  where
    to : Contains sorted x → IsWritten (lists_of made) x.var x.nth x.value
    to i =
        let w = (are x).0 (contains_in ws x (Contains-permutation sorted ws x (IsPermutation-sym ws sorted moved) i)) in
        let q = of_entry w.2.0 x w.2.2 in
        (w.0, (w.2.0, w.2.1, q.0, q.1))

    from : IsWritten (lists_of made) x.var x.nth x.value → Contains sorted x
    from (c, (e, there, n, w)) =
        Contains-permutation ws sorted x moved (in_contains ws x
        ((are x).1 (
          c,
          (let n' = thread_at made record' c e there in omega arith),
          (e, there, to_entry e x (kept_at made record' c e there) n w),
        )))
