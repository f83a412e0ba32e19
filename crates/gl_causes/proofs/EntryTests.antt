-- What the tests of an entry say of it.
use Rattle.std.proofs.Common.{◌≡◌, ℕ, ◌<◌, ◌==◌, List, [], ◌∷◌, map, Bool, true, false, refl, ap, sym, ◌∙◌, subst, inl, inr, arith, Some, None, eq-eqb}
use Rattle.std.specs.Prelude.{◌⊎◌, ◌↔◌, ◌&&◌, Contains, Option, find, not, nat_lt, option_map, if◌then◌else◌}
use Rattle.std.proofs.lemmas.Bool.{eqb-true, ltb-true, lt-ltb}
use Rattle.std.proofs.lemmas.List.Elements.{Contains-append_right, Contains-append_cases}
use Rattle.gl_core.proofs.Marking.{or_cases, or_left, or_right}
use Rattle.gl_draws.proofs.Origins.{number_once}
use Rattle.gl_model.specs.declared.tx.Number.{Number}
use Rattle.gl_model.specs.declared.tx.Tx.{Tx}
use Rattle.gl_model.specs.declared.tx.Why.TheVariants.{Changed, Raised}
use Rattle.gl_model.specs.Entries.{Entry, Sync, Commit, Plain, Abort, Trim, Over}
use Rattle.gl_model.specs.Form.{NumberDraws}
use Rattle.gl_model.specs.HappensBefore.{IsCommit, IsRefusedCommit}
use Rattle.gl_model.specs.Kept.{IsEntryKept}
use Rattle.gl_model.specs.Records.{NumberOn, IsPerformed, IsPlain, Writes}
use Rattle.gl_model.specs.Rising.{Rises}
use Rattle.gl_raised.specs.Accesses.{IsAccess, raised_on, writes_one}
use Rattle.gl_causes.specs.declared.refusals.Refusal.{Refusal}
use Rattle.gl_causes.specs.Judging.{attempt_where, is_plain, number_on, own_number, refusal_of, writes_to}
use Rattle.gl_causes.specs.Learning.{commits_before, is_lower, is_lower_than, refused_numbers}
use Rattle.gl_raised.proofs.Parts.{contains_first, one_contains, writes_means}

-- a number made of a variable and its place
abbrev pub named : ℕ → ℕ → Number
named x k = record { var = x; nth = k }

-- a number that is found is one of them
pub number_means : (ns : List Number) (x k : ℕ) → number_on ns x ≡ Some k → Contains ns (named x k)
number_means [] x k e = absurd (cc)
number_means (n ∷ ns) x k e = by (n.var == x) refl e (λ e'. number_means ns x k e')
  where
    by : (b : Bool) → (n.var == x) ≡ b → option_map (λ (m : Number). m.nth) (if b then Some n else find (λ m. m.var == x) ns) ≡ Some k
        → (number_on ns x ≡ Some k → Contains ns (named x k)) → Contains (n ∷ ns) (named x k)
    by true same e' rec =
        let var : n.var ≡ x = eqb-true n.var x same in
        let nth : n.nth ≡ k = cc in
        let is : n ≡ named x k = (λ i. record { var = var i; nth = nth i }) in
        subst (Contains (n ∷ ns)) is (contains_first n ns)
    by false other e' rec = Contains-append_right (n ∷ []) ns (named x k) (rec e')

-- and where the variables rise each of them is found
pub number_there : (ns : List Number) → Rises (map (λ n. n.var) ns) → (x k : ℕ) → Contains ns (named x k) → number_on ns x ≡ Some k
number_there [] rises x k c = absurd (let l = c.1 in omega arith)
number_there (n ∷ ns) rises x k c = by (n.var == x) refl (λ c'. number_there ns rises.1 x k c')
  where
    by : (b : Bool) → (n.var == x) ≡ b → (Contains ns (named x k) → number_on ns x ≡ Some k)
        → option_map (λ (m : Number). m.nth) (if b then Some n else find (λ m. m.var == x) ns) ≡ Some k
    by true same rec =
        let var : n.var ≡ x = eqb-true n.var x same in
        let is : n ≡ named x n.nth = (λ i. record { var = var i; nth = n.nth }) in
        ap Some (number_once x n.nth k (n ∷ ns) rises (subst (Contains (n ∷ ns)) is (contains_first n ns)) c)
    by false other rec = elim (Contains-append_cases (n ∷ []) ns (named x k) c) [
      | inl first ↦ absurd (let same : n ≡ named x k = one_contains n (named x k) first
          in let z : (n.var == x) ≡ true = eq-eqb n.var x (ap (λ (m : Number). m.var) same) in cc)
      | inr rest ↦ rec rest
    ]

-- a plain entry that tests as having a number of x is an uncached one of x under that number that did not raise
plain_own : (x var nth k : ℕ) (cached raised : Bool) → (if var == x && (not cached && not raised) then Some nth else None) ≡ Some k
    → (cached ≡ false) × (var ≡ x) × (nth ≡ k) × (raised ≡ false)
plain_own x var nth k cached raised e = by (var == x) refl cached raised e
  where
    by : (b : Bool) → (var == x) ≡ b → (c r : Bool) → (if b && (not c && not r) then Some nth else None) ≡ Some k
        → (c ≡ false) × (var ≡ x) × (nth ≡ k) × (r ≡ false)
    by true same false false e' = (refl, eqb-true var x same, let z : nth ≡ k = cc in z, refl)
    by true same false true e' = absurd (cc)
    by true same true r e' = absurd (cc)
    by false other c r e' = absurd (cc)

-- an access that drew a number and was performed
pub record IsDone (e : Entry) (x k : ℕ) : Type 0 where
  pub drawn : NumberDraws e x k
  pub performed : IsPerformed e
  pub number : NumberOn e x k
  pub is_access : IsAccess e
  pub kind : IsPlain e ⊎ IsCommit e

-- an entry that tests as having a number of x is done there
pub own_means : (e : Entry) (x k : ℕ) → own_number x e ≡ Some k → IsDone e x k
own_means (Commit at tx) x k e =
    let n = number_means tx.numbers x k e in record { drawn = n; performed = tt; number = n; is_access = tt; kind = inr tt }
own_means (Plain var nth cached write value raised) x k e =
    let p = plain_own x var nth k cached raised e in
    record { drawn = (p.0, p.1, p.2); performed = p.3; number = (p.1, p.2); is_access = tt; kind = inl tt }
own_means (Sync at act value) x k e = absurd (cc)
own_means (Abort tx why) x k e = absurd (cc)
own_means (Trim low) x k e = absurd (cc)
own_means (Over ending) x k e = absurd (cc)

-- a kept and performed entry that draws a number of x tests as having it
pub own_there : (e : Entry) (x k : ℕ) → IsEntryKept e → NumberDraws e x k → IsPerformed e → own_number x e ≡ Some k
own_there (Commit at tx) x k kept d p = number_there tx.numbers kept.2.1 x k d
own_there (Plain var nth cached write value raised) x k kept d p =
    let same : (var == x) ≡ true = eq-eqb var x d.1 in rw (same, d.0, p) (ap Some d.2)
own_there (Sync at act value) x k kept d p = absurd d
own_there (Abort tx why) x k kept d p = absurd p
own_there (Trim low) x k kept d p = absurd d
own_there (Over ending) x k kept d p = absurd d

-- a performed access of x tests as writing it exactly where it writes it
pub writes_told : (e : Entry) (x k : ℕ) → IsPerformed e → NumberOn e x k → (writes_to x e ≡ true) ↔ Writes e x
writes_told (Commit at tx) x k p n = writes_means tx.writes x
writes_told (Plain var nth cached write value raised) x k p n = (λ e. (n.0, e), λ w. w.1)
writes_told (Sync at act value) x k p n = absurd n
writes_told (Abort tx why) x k p n = absurd p
writes_told (Trim low) x k p n = absurd n
writes_told (Over ending) x k p n = absurd n

-- an entry tests as plain exactly where it is
pub plain_told' : (e : Entry) → (is_plain e ≡ true) ↔ IsPlain e
plain_told' (Plain var nth cached write value raised) = (λ e. tt, λ p. refl)
plain_told' (Commit at tx) = (λ e. absurd (cc), λ p. absurd p)
plain_told' (Sync at act value) = (λ e. absurd (cc), λ p. absurd p)
plain_told' (Abort tx why) = (λ e. absurd (cc), λ p. absurd p)
plain_told' (Trim low) = (λ e. absurd (cc), λ p. absurd p)
plain_told' (Over ending) = (λ e. absurd (cc), λ p. absurd p)

-- an access that was refused
pub record IsRefused (f : Entry) (r : Refusal) : Type 0 where
  pub number : NumberOn f r.var r.nth
  pub raised : raised_on f ≡ Some r.var
  pub is_access : IsAccess f
  pub writes : (r.write ≡ true) ↔ Writes f r.var
  pub plain : (r.plain ≡ true) ↔ IsPlain f
  pub kind : IsPlain f ⊎ IsRefusedCommit f

-- a dropped attempt that names its race is refused there
attempt_means : (tx : Tx) (x : ℕ) (o : Option ℕ) → number_on tx.numbers x ≡ o → (r : Refusal) → attempt_where tx x o ≡ Some r
    → IsRefused (Abort tx (Raised x)) r
attempt_means tx x None eq r e = absurd (cc)
attempt_means tx x (Some k) eq r e =
    let is : record { var = x; nth = k; plain = false; write = writes_one tx.writes x } ≡ r = cc in subst (IsRefused (Abort tx (Raised x)))
    is (record {
      number = number_means tx.numbers x k eq;
      raised = refl;
      is_access = tt;
      writes = writes_means tx.writes x;
      plain = (λ z. absurd (cc), λ p. absurd p);
      kind = inr tt;
    })

-- an entry that names a refusal is refused there
pub refusal_means : (f : Entry) (r : Refusal) → refusal_of f ≡ Some r → IsRefused f r
refusal_means (Plain var nth cached write value true) r e =
    let is : record { var = var; nth = nth; plain = true; write = write } ≡ r = cc in
    subst (IsRefused (Plain var nth cached write value true)) is (record {
      number = (refl, refl);
      raised = refl;
      is_access = tt;
      writes = (λ z. (refl, z), λ w. w.1);
      plain = (λ z. tt, λ p. refl);
      kind = inl tt;
    })
refusal_means (Plain var nth cached write value false) r e = absurd (cc)
refusal_means (Abort tx (Raised var)) r e = attempt_means tx var (number_on tx.numbers var) refl r e
refusal_means (Abort tx (Changed var read found)) r e = absurd (cc)
refusal_means (Sync at act value) r e = absurd (cc)
refusal_means (Commit at tx) r e = absurd (cc)
refusal_means (Trim low) r e = absurd (cc)
refusal_means (Over ending) r e = absurd (cc)

-- an attempt with a number on x names a refusal of x
attempt_there : (tx : Tx) (x : ℕ) (o : Option ℕ) (k : ℕ) → o ≡ Some k → (r : Refusal) × (attempt_where tx x o ≡ Some r) × (r.var ≡ x)
attempt_there tx x None k e = absurd (cc)
attempt_there tx x (Some j) k e = (record { var = x; nth = j; plain = false; write = writes_one tx.writes x }, refl, refl)

-- what was refused on a variable where it has a number has a refusal there
pub refusal_there : (f : Entry) (x k : ℕ) → IsEntryKept f → raised_on f ≡ Some x → NumberOn f x k → (r : Refusal) × (refusal_of f ≡ Some r)
    × (r.var ≡ x)
refusal_there (Plain var nth cached write value true) x k kept e n =
    (record { var = var; nth = nth; plain = true; write = write }, refl, n.0)
refusal_there (Plain var nth cached write value false) x k kept e n = absurd (cc)
refusal_there (Abort tx (Raised var)) x k kept e n =
    let same : var ≡ x = cc in
    let w = attempt_there tx var (number_on tx.numbers var) k (number_there tx.numbers kept.0.2.1 var k
    (subst (λ y. Contains tx.numbers (named y k)) (sym same) n)) in
    (w.0, w.1, w.2 ∙ same)
refusal_there (Abort tx (Changed var read found)) x k kept e n = absurd n
refusal_there (Sync at act value) x k kept e n = absurd n
refusal_there (Commit at tx) x k kept e n = absurd (cc)
refusal_there (Trim low) x k kept e n = absurd n
refusal_there (Over ending) x k kept e n = absurd n

-- an access has one number on a variable
pub one_number : (f : Entry) (x k m : ℕ) → IsEntryKept f → NumberOn f x k → NumberOn f x m → k ≡ m
one_number (Plain var nth cached write value raised) x k m kept a b = sym a.1 ∙ b.1
one_number (Commit at tx) x k m kept a b = number_once x k m tx.numbers kept.2.1 a b
one_number (Abort tx (Raised var)) x k m kept a b = number_once x k m tx.numbers kept.0.2.1 a b
one_number (Abort tx (Changed var read found)) x k m kept a b = absurd a
one_number (Sync at act value) x k m kept a b = absurd a
one_number (Trim low) x k m kept a b = absurd a
one_number (Over ending) x k m kept a b = absurd a

-- on some variable of both the first has a lower number
pub record IsLower (earlier later : List Number) : Type 0 where
  pub var : ℕ
  pub number : ℕ
  pub above : ℕ
  pub first : Contains earlier (named var number)
  pub second : Contains later (named var above)
  pub less : number < above

-- where a number tests as above that of an option, the option has one, which is below it
lower_than : (k : ℕ) (o : Option ℕ) → is_lower_than k o ≡ true → (m : ℕ) × (o ≡ Some m) × (m < k)
lower_than k None e = absurd (cc)
lower_than k (Some m) e = (m, refl, ltb-true m k e)

-- numbers that test as lower are lower
pub lower_means : (ns ms : List Number) → is_lower ns ms ≡ true → IsLower ns ms
lower_means ns [] e = absurd (cc)
lower_means ns (m ∷ ms) e = elim (or_cases (is_lower_than m.nth (number_on ns m.var)) (is_lower ns ms) e) [
  | inl first ↦ (let w = lower_than m.nth (number_on ns m.var) first in record {
    var = m.var;
    number = w.0;
    above = m.nth;
    first = number_means ns m.var w.0 w.1;
    second = contains_first m ms;
    less = w.2;
  })
  | inr rest ↦ (let r = lower_means ns ms rest in record {
    var = r.var;
    number = r.number;
    above = r.above;
    first = r.first;
    second = Contains-append_right (m ∷ []) ms (named r.var r.above) r.second;
    less = r.less;
  })
]

-- rising numbers that are lower test as lower
pub lower_there : (ns ms : List Number) → Rises (map (λ n. n.var) ns) → IsLower ns ms → is_lower ns ms ≡ true
lower_there ns ms rises l = among ms l.second
  where
    among : (ms : List Number) → Contains ms (named l.var l.above) → is_lower ns ms ≡ true
    among [] c = absurd (let z = c.1 in omega arith)
    among (m ∷ ms) c = elim (Contains-append_cases (m ∷ []) ms (named l.var l.above) c) [
      | inl first ↦
          (let same : m ≡ named l.var l.above = one_contains m (named l.var l.above) first in
          let found : number_on ns m.var ≡ Some l.number = ap (λ (z : Number). number_on ns z.var) same
          ∙ number_there ns rises l.var l.number l.first in
          let less : nat_lt l.number m.nth ≡ true = lt-ltb l.number m.nth (subst (λ (z : Number). l.number < z.nth) (sym same) l.less) in
          or_left (is_lower_than m.nth (number_on ns m.var)) (is_lower ns ms) (ap (is_lower_than m.nth) found ∙ less))
      | inr rest ↦ or_right (is_lower_than m.nth (number_on ns m.var)) (is_lower ns ms) (among ms rest)
    ]

-- a commit that has a lower number than a refused attempt on a variable of both
pub record IsCommitBefore (g f : Entry) : Type 0 where
  pub commit : IsCommit g
  pub var : ℕ
  pub number : ℕ
  pub above : ℕ
  pub first : NumberOn g var number
  pub second : NumberOn f var above
  pub less : number < above

-- the refused numbers of a refused commit are the numbers that it has
refused_number : (f : Entry) (x k : ℕ) → IsRefusedCommit f → Contains (refused_numbers f) (named x k) ↔ NumberOn f x k
refused_number (Abort tx (Raised var)) x k i = (λ c. c, λ n. n)
refused_number (Abort tx (Changed var read found)) x k i = absurd i
refused_number (Sync at act value) x k i = absurd i
refused_number (Commit at tx) x k i = absurd i
refused_number (Plain var nth cached write value raised) x k i = absurd i
refused_number (Trim low) x k i = absurd i
refused_number (Over ending) x k i = absurd i

-- an entry that tests as a commit before a refused one is one
pub before_means : (g f : Entry) → IsRefusedCommit f → commits_before (refused_numbers f) g ≡ true → IsCommitBefore g f
before_means (Commit at tx) f i e = let l = lower_means tx.numbers (refused_numbers f) e in record {
  commit = tt;
  var = l.var;
  number = l.number;
  above = l.above;
  first = l.first;
  second = (refused_number f l.var l.above i).0 l.second;
  less = l.less;
}
before_means (Sync at act value) f i e = absurd (cc)
before_means (Plain var nth cached write value raised) f i e = absurd (cc)
before_means (Abort tx why) f i e = absurd (cc)
before_means (Trim low) f i e = absurd (cc)
before_means (Over ending) f i e = absurd (cc)

-- a kept entry that is a commit before a refused one tests as one
pub before_there : (g f : Entry) → IsEntryKept g → IsRefusedCommit f → IsCommitBefore g f → commits_before (refused_numbers f) g ≡ true
before_there (Commit at tx) f kept i b = lower_there tx.numbers (refused_numbers f) kept.2.1
    (record {
      var = b.var;
      number = b.number;
      above = b.above;
      first = b.first;
      second = (refused_number f b.var b.above i).1 b.second;
      less = b.less;
    })
before_there (Sync at act value) f kept i b = absurd b.commit
before_there (Plain var nth cached write value raised) f kept i b = absurd b.commit
before_there (Abort tx why) f kept i b = absurd b.commit
before_there (Trim low) f kept i b = absurd b.commit
before_there (Over ending) f kept i b = absurd b.commit

-- no entry tests as a commit before a plain one
pub none_before : (g f : Entry) → IsPlain f → commits_before (refused_numbers f) g ≡ true → ⊥
none_before (Commit at tx) (Plain a b c d f g) p e = cc
none_before (Sync at act value) (Plain a b c d f g) p e = cc
none_before (Plain x k l m n o) (Plain a b c d f g) p e = cc
none_before (Abort tx why) (Plain a b c d f g) p e = cc
none_before (Trim low) (Plain a b c d f g) p e = cc
none_before (Over ending) (Plain a b c d f g) p e = cc
none_before g (Sync at act value) p e = p
none_before g (Commit at tx) p e = p
none_before g (Abort tx why) p e = p
none_before g (Trim low) p e = p
none_before g (Over ending) p e = p
