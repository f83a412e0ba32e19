-- Marks by place: whether some of them is unknown.
use Rattle.std.proofs.Common.{◌≡◌, ℕ, zero, suc, ◌+◌, List, [], ◌∷◌, replicate, refl, sym, subst, inl, inr, arith, true, false, Bool}
use Rattle.std.specs.Prelude.{◌⊎◌, ◌↔◌, ◌||◌, ◌&&◌, nat_lt}
use Rattle.std.proofs.lemmas.Bool.{le-ltb}
use native.Mathlib.Decide.{ℕ_discrete}
use Rattle.gl_core.specs.Cells.{at}
use Rattle.gl_core.specs.Marks.{marks_fail}

-- ---- two tests joined

-- where either of two tests holds, one does
pub or_cases : (a b : Bool) → (a || b) ≡ true → (a ≡ true) ⊎ (b ≡ true)
or_cases true b e = inl refl
or_cases false b e = inr e

-- where neither of two tests holds, both fail
pub or_none : (a b : Bool) → (a || b) ≡ false → (a ≡ false) × (b ≡ false)
or_none true b e = absurd (cc)
or_none false b e = (refl, e)

-- where the first test holds, one of the two does
pub or_left : (a b : Bool) → a ≡ true → (a || b) ≡ true
or_left true b e = refl
or_left false b e = absurd (cc)

-- where the second test holds, one of the two does
pub or_right : (a b : Bool) → b ≡ true → (a || b) ≡ true
or_right true b e = refl
or_right false b e = e

-- where both tests fail, neither holds
pub or_both : (a b : Bool) → a ≡ false → b ≡ false → (a || b) ≡ false
or_both true b e f = absurd (cc)
or_both false b e f = f

-- where two tests hold both, each does
pub and_both : (a b : Bool) → (a && b) ≡ true → (a ≡ true) × (b ≡ true)
and_both true b e = (refl, e)
and_both false b e = absurd (cc)

-- where each holds, both do
pub and_true : (a b : Bool) → a ≡ true → b ≡ true → (a && b) ≡ true
and_true true b e f = f
and_true false b e f = e

-- where not both hold and the first does, the second fails
pub and_none : (a b : Bool) → (a && b) ≡ false → a ≡ true → b ≡ false
and_none true b e t = e
and_none false b e t = absurd (cc)

-- two tests of one thing say the same
pub same_bool : (a b : Bool) → (a ≡ true) ↔ (b ≡ true) → a ≡ b
same_bool true b e = sym (e.0 refl)
same_bool false true e = e.1 refl
same_bool false false e = refl

-- ---- marks by place

-- the mark of no access is known
pub none_unknown : (k m : ℕ) → m ≡ 0 → nat_lt k m ≡ false
none_unknown k m e = le-ltb k m (omega arith)

-- some mark fails at its place
pub marks_at : (known : ℕ → ℕ) (u : ℕ) (ms : List ℕ) → marks_fail known u ms ≡ true → (t : ℕ) × (nat_lt (known (u + t)) (at ms t) ≡ true)
marks_at known u [] e = absurd (cc)
marks_at known u (m ∷ ms) e = elim (or_cases (nat_lt (known u) m) (marks_fail known (u + 1) ms) e) [
  | inl a ↦ (0, (let z : u + 0 ≡ u = omega arith in subst (λ k. nat_lt (known k) m ≡ true) (sym z) a))
  | inr b ↦ (let r = marks_at known (u + 1) ms b
      in (suc r.0, (let z : u + 1 + r.0 ≡ u + suc r.0 = omega arith in subst (λ k. nat_lt (known k) (at ms r.0) ≡ true) z r.1)))
]

-- or none does
pub marks_none : (known : ℕ → ℕ) (u : ℕ) (ms : List ℕ) → marks_fail known u ms ≡ false → (t : ℕ) → nat_lt (known (u + t)) (at ms t) ≡ false
marks_none known u [] e t = none_unknown (known (u + t)) 0 refl
marks_none known u (m ∷ ms) e zero = let z : u + 0 ≡ u = omega arith
    in subst (λ k. nat_lt (known k) m ≡ false) (sym z) (or_none (nat_lt (known u) m) (marks_fail known (u + 1) ms) e).0
marks_none known u (m ∷ ms) e (suc t) =
    let z : u + 1 + t ≡ u + suc t = omega arith in
    subst (λ k. nat_lt (known k) (at ms t) ≡ false) z
    (marks_none known (u + 1) ms (or_none (nat_lt (known u) m) (marks_fail known (u + 1) ms) e).1 t)

-- a place counted from 0 is that place
first_place : (known : ℕ → ℕ) (ms : List ℕ) (b : Bool) (t : ℕ) → nat_lt (known (0 + t)) (at ms t) ≡ b → nat_lt (known t) (at ms t) ≡ b
first_place known ms b t e = let z : 0 + t ≡ t = omega arith in subst (λ k. nat_lt (known k) (at ms t) ≡ b) z e

-- where the marks fail, some thread's mark is unknown
pub some_mark : (known : ℕ → ℕ) (ms : List ℕ) → marks_fail known 0 ms ≡ true → (t : ℕ) × (nat_lt (known t) (at ms t) ≡ true)
some_mark known ms e = let r = marks_at known 0 ms e in (r.0, first_place known ms true r.0 r.1)

-- where they do not, each thread's mark is known
pub no_mark : (known : ℕ → ℕ) (ms : List ℕ) → marks_fail known 0 ms ≡ false → (t : ℕ) → nat_lt (known t) (at ms t) ≡ false
no_mark known ms e t = first_place known ms false t (marks_none known 0 ms e t)

-- where one thread alone may have a mark, its mark decides
pub only_mark : (known : ℕ → ℕ) (ms : List ℕ) (r : ℕ) → ((u : ℕ) → (u ≡ r → ⊥) → at ms u ≡ 0) → nat_lt (known r) (at ms r)
    ≡ marks_fail known 0 ms
only_mark known ms r alone = by (marks_fail known 0 ms) refl
  where
    by : (b : Bool) → marks_fail known 0 ms ≡ b → nat_lt (known r) (at ms r) ≡ b
    by true e =
        let s = some_mark known ms e in
        elim (ℕ_discrete s.0 r) [
          | yes same ↦ subst (λ k. nat_lt (known k) (at ms k) ≡ true) same s.1
          | no other ↦ absurd (let n = none_unknown (known s.0) (at ms s.0) (alone s.0 other) in let y = s.1 in cc)
        ]
    by false e = no_mark known ms e r

-- a list of zeros has 0 at each place
pub zero_at : (n u : ℕ) → at (replicate n 0) u ≡ 0
zero_at zero u = refl
zero_at (suc n) zero = refl
zero_at (suc n) (suc u) = zero_at n u
