-- What the accesses of an entry say of it.
use Rattle.std.proofs.Common.{◌≡◌, ℕ, zero, suc, ◌-◌, ◌==◌, List, [], ◌∷◌, map, Bool, true, false, not, refl, subst, inl, inr, arith, Some, eq-eqb}
use Rattle.std.specs.Prelude.{◌⊎◌, ◌↔◌, ℤ, Contains, find, is_some, if◌then◌else◌}
use Rattle.std.proofs.lemmas.Bool.{eqb-true}
use Rattle.std.proofs.lemmas.List.Elements.{Contains-append_left, Contains-append_right, Contains-append_cases}
use Rattle.gl_draws.proofs.Sets.{contains_map, map_contains}
use Rattle.gl_model.specs.declared.tx.Number.{Number}
use Rattle.gl_model.specs.declared.tx.Pair.{Pair}
use Rattle.gl_model.specs.declared.tx.Why.TheVariants.{Changed, Raised}
use Rattle.gl_model.specs.Entries.{Entry, Sync, Commit, Plain, Abort, Trim, Over}
use Rattle.gl_model.specs.HappensBefore.{IsCommit, IsRefusedCommit}
use Rattle.gl_model.specs.Records.{NumberOn, IsPerformed, IsPlain, Writes}
use Rattle.gl_raised.specs.Accesses.{accesses_of, part_of, plain_of, tick_after, writes_one}
use Rattle.gl_raised.specs.declared.access.Access.{Access}

-- the access a is one of the entry e, which stands among the claims at k, is of thread t, and is in the block b
pub record IsPart (k t b : ℕ) (e : Entry) (a : Access) : Type 0 where
  pub claim : a.claim ≡ k
  pub thread : a.thread ≡ t
  pub number : NumberOn e a.var a.nth
  pub writes : (a.write ≡ true) ↔ Writes e a.var
  -- it is plain, a commit, or a refused commit
  pub kind :
      (IsPlain e × (a.commit ≡ false) × (a.tick ≡ tick_after b) × ((a.performed ≡ true) ↔ IsPerformed e)) ⊎
      ((IsCommit e × (a.commit ≡ true) × (a.performed ≡ true) × (a.tick ≡ b))
      ⊎ (IsRefusedCommit e × (a.commit ≡ true) × (a.performed ≡ false) × (a.tick ≡ b)))

-- the first is in its list
pub contains_first : {A : Type 0} (x : A) (xs : List A) → Contains (x ∷ xs) x
contains_first x xs = Contains-append_left (x ∷ []) xs x (zero, omega arith, refl)

-- what is in a one-element list is its element
pub one_contains : {A : Type 0} (x y : A) → Contains (x ∷ []) y → x ≡ y
one_contains x y (zero, l, e) = e
one_contains x y (suc i, l, e) = absurd (omega arith)

-- a transaction writes the variable exactly where one of its writes is of it
pub writes_means : (ws : List Pair) (x : ℕ) → (writes_one ws x ≡ true) ↔ Contains (map (λ w. w.var) ws) x
writes_means [] x = (λ e. absurd (cc), λ c. absurd (let l = c.1 in omega arith))
writes_means (w ∷ ws) x = by (w.var == x) refl (writes_means ws x)
  where
    by : (b : Bool) → (w.var == x) ≡ b → (writes_one ws x ≡ true) ↔ Contains (map (λ w. w.var) ws) x
        → (is_some (if b then Some w else find (λ p. p.var == x) ws) ≡ true) ↔ Contains (w.var ∷ map (λ w. w.var) ws) x
    by true same rec = (
      λ e. subst (Contains (w.var ∷ map (λ w. w.var) ws)) (eqb-true w.var x same)
          (contains_first w.var (map (λ w. w.var) ws)),
      λ c. refl,
    )
    by false other rec = (
      λ e. Contains-append_right (w.var ∷ []) (map (λ w. w.var) ws) x (rec.0 e),
      λ c. elim (Contains-append_cases (w.var ∷ []) (map (λ w. w.var) ws) x c) [
        | inl first ↦ absurd (let z : (w.var == x) ≡ true = eq-eqb w.var x (one_contains w.var x first) in cc)
        | inr rest ↦ rec.1 rest
      ],
    )

-- a number made of a variable and its place
abbrev named : ℕ → ℕ → Number
named x k = record { var = x; nth = k }

-- the access that a plain entry makes is the part of it
plain_part : (k t b x n : ℕ) (c w : Bool) (value : ℤ) (raised : Bool)
    → IsPart k t b (Plain x n c w value raised) (plain_of k t b x n w raised)
plain_part k t b x n c w value raised = record {
  claim = refl;
  thread = refl;
  number = (refl, refl);
  writes = (λ e. (refl, e), λ e. e.1);
  kind = inl (tt, refl, refl, (λ e. not_true raised e, λ e. not_false raised e));
}
  where
    not_true : (b : Bool) → not b ≡ true → b ≡ false
    not_true true e = cc
    not_true false e = refl

    not_false : (b : Bool) → b ≡ false → not b ≡ true
    not_false true e = cc
    not_false false e = refl

-- each access of an entry is a part of it
pub part_means : (k t b : ℕ) (e : Entry) (a : Access) → Contains (accesses_of k t b e) a → IsPart k t b e a
part_means k t b (Sync at act value) a c = absurd (let l = c.1 in omega arith)
part_means k t b (Commit at tx) a c =
    let m = contains_map (part_of k t b true tx.writes) tx.numbers a c in
    subst (IsPart k t b (Commit at tx)) m.2 (record
    { claim = refl; thread = refl; number = m.1; writes = writes_means tx.writes m.0.var; kind = inr (inl (tt, refl, refl, refl)) })
part_means k t b (Plain var nth cached write value raised) a c =
    subst (IsPart k t b (Plain var nth cached write value raised)) (one_contains (plain_of k t b var nth write raised) a c)
    (plain_part k t b var nth cached write value raised)
part_means k t b (Abort tx (Raised var)) a c =
    let m = contains_map (part_of k t b false tx.writes) tx.numbers a c in
    subst (IsPart k t b (Abort tx (Raised var))) m.2
    (record {
      claim = refl;
      thread = refl;
      number = m.1;
      writes = writes_means tx.writes m.0.var;
      kind = inr (inr (tt, refl, refl, refl));
    })
part_means k t b (Abort tx (Changed var read found)) a c = absurd (let l = c.1 in omega arith)
part_means k t b (Trim low) a c = absurd (let l = c.1 in omega arith)
part_means k t b (Over ending) a c = absurd (let l = c.1 in omega arith)

-- and each number of an entry is that of one of its accesses
pub part_there : (k t b : ℕ) (e : Entry) (x n : ℕ) → NumberOn e x n → (a : Access) × Contains (accesses_of k t b e) a × (a.var ≡ x)
    × (a.nth ≡ n)
part_there k t b (Sync at act value) x n i = absurd i
part_there k t b (Commit at tx) x n i = (
  part_of k t b true tx.writes (named x n),
  map_contains (part_of k t b true tx.writes) tx.numbers
      (named x n) i,
  refl,
  refl,
)
part_there k t b (Plain var nth cached write value raised) x n i =
    (plain_of k t b var nth write raised, contains_first (plain_of k t b var nth write raised) [], i.0, i.1)
part_there k t b (Abort tx (Raised var)) x n i =
    (part_of k t b false tx.writes (named x n), map_contains (part_of k t b false tx.writes) tx.numbers (named x n) i, refl, refl)
part_there k t b (Abort tx (Changed var read found)) x n i = absurd i
part_there k t b (Trim low) x n i = absurd i
part_there k t b (Over ending) x n i = absurd i
