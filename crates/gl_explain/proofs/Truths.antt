-- Tests that are facts.
use Rattle.std.proofs.Common.{◌≡◌, eq-eqb, ◌<◌, ℕ, Bool, true, false, refl, sym, inl, inr}
use Rattle.std.specs.Prelude.{◌⊎◌, ◌↔◌, IsTrue, ◌||◌, ◌&&◌, ◌==◌, nat_lt, not}
use Rattle.std.proofs.lemmas.Bool.{eqb-true, ltb-true, lt-ltb}

-- two numbers are the same exactly where the test says so
pub eq_test : (a b : ℕ) → IsTrue (a == b) ↔ (a ≡ b)
eq_test a b = (λ t. eqb-true a b t, λ e. eq-eqb a b e)

-- one number is below another exactly where the test says so
pub lt_test : (a b : ℕ) → IsTrue (nat_lt a b) ↔ (a < b)
lt_test a b = (λ t. ltb-true a b t, λ l. lt-ltb a b l)

-- a negated test is true exactly where what it tests is not so
pub negated : (b : Bool) (P : Type 0) → IsTrue b ↔ P → IsTrue (not b) ↔ (P → ⊥)
negated true P p = (λ t. absurd (cc), λ w. absurd (w (p.0 refl)))
negated false P p = (λ _ x. (let yes = p.1 x in cc), λ _. refl)

-- a disjunction is true exactly where one of its tests is
pub either : (a b : Bool) (P Q : Type 0) → IsTrue a ↔ P → IsTrue b ↔ Q → IsTrue (a || b) ↔ (P ⊎ Q)
either true b P Q p q = (λ _. inl (p.0 refl), λ _. refl)
either false b P Q p q = (λ t. inr (q.0 t), λ w. elim w [ inl x ↦ absurd (let n = p.1 x in cc) | inr y ↦ q.1 y ])

-- a conjunction is true exactly where both of its tests are
pub both : (a b : Bool) (P Q : Type 0) → IsTrue a ↔ P → IsTrue b ↔ Q → IsTrue (a && b) ↔ (P × Q)
both true b P Q p q = (λ t. (p.0 refl, q.0 t), λ w. q.1 w.1)
both false b P Q p q = (λ t. absurd (cc), λ w. absurd (let n = p.1 w.0 in cc))

-- a test that says one thing says what is equivalent to it
pub same_test : (b : Bool) (P Q : Type 0) → IsTrue b ↔ P → (P → Q) → (Q → P) → IsTrue b ↔ Q
same_test b P Q p to back = (λ t. to (p.0 t), λ q. p.1 (back q))

-- two tests that are true exactly together are the same
pub same_bool : (a b : Bool) → (a ≡ true) ↔ (b ≡ true) → a ≡ b
same_bool true b e = sym (e.0 refl)
same_bool false true e = e.1 refl
same_bool false false e = refl
