-- Tests that are facts.
use Rattle.std.proofs.Common.{◌≡◌, eq-eqb, Some, None, ◌<◌, ℕ, List, Option, Some, Bool, true, false, refl, inl, inr}
use Rattle.std.specs.Prelude.{◌⊎◌, ◌↔◌, IsTrue, ◌||◌, ◌&&◌, ◌==◌, nat_lt, not, is_some, Contains}
use Rattle.std.proofs.lemmas.Bool.{eqb-true, ltb-true, lt-ltb}
use Rattle.gl_model.specs.declared.event.Act.TheVariants.{Begin, End, Fork, Join}
use Rattle.gl_model.specs.declared.event.Event.TheVariants.{Act as Does, Commit}
use Rattle.gl_model.specs.declared.event.Stamp.{Stamp}
use Rattle.gl_model.specs.Edges.{SynchronizesWith, release_acquire, fork_begin, end_join, commits, monitor, volatile, released, acquired}

-- the test for equal numbers holds exactly where they are equal
pub eq_test : (a b : ℕ) → IsTrue (a == b) ↔ (a ≡ b)
eq_test a b = (λ t. eqb-true a b t, λ e. eq-eqb a b e)

-- the test for less holds exactly where the first number is below the second
pub lt_test : (a b : ℕ) → IsTrue (nat_lt a b) ↔ (a < b)
lt_test a b = (λ t. ltb-true a b t, λ l. lt-ltb a b l)

-- the test that is turned round holds exactly where the fact does not
pub negated : (b : Bool) (P : Type 0) → IsTrue b ↔ P → IsTrue (not b) ↔ (P → ⊥)
negated true P p = (λ t. absurd (cc), λ w. absurd (w (p.0 refl)))
negated false P p = (λ _ x. (let yes = p.1 x in cc), λ _. refl)

-- a test holds exactly where its answer is true
pub truth : (b : Bool) → IsTrue b ↔ (b ≡ true)
truth b = (λ t. t, λ t. t)

-- a test whose answer is the contrary of whether an option is there holds exactly where it is none
pub none_test : {A : Type 0} (o : Option A) (b : Bool) → is_some o ≡ not b → IsTrue b ↔ (o ≡ None)
none_test None true is = (λ _. refl, λ _. refl)
none_test None false is = absurd (cc)
none_test (Some x) true is = absurd (cc)
none_test (Some x) false is = (λ t. absurd (cc), λ e. absurd (cc))

-- one of two tests holds exactly where one of their two facts does
pub either : (a b : Bool) (P Q : Type 0) → IsTrue a ↔ P → IsTrue b ↔ Q → IsTrue (a || b) ↔ (P ⊎ Q)
either true b P Q p q = (λ _. inl (p.0 refl), λ _. refl)
either false b P Q p q = (λ t. inr (q.0 t), λ w. elim w [ inl x ↦ absurd (let n = p.1 x in cc) | inr y ↦ q.1 y ])

-- both of two tests hold exactly where both facts do
pub both : (a b : Bool) (P Q : Type 0) → IsTrue a ↔ P → IsTrue b ↔ Q → IsTrue (a && b) ↔ (P × Q)
both true b P Q p q = (λ t. (p.0 refl, q.0 t), λ w. q.1 w.1)
both false b P Q p q = (λ t. absurd (cc), λ w. absurd (let n = p.1 w.0 in cc))

-- where the first of two tests holds, the second alone tells whether both facts do
pub first_holds : (a b : Bool) (P Q : Type 0) → a ≡ true → IsTrue a ↔ P → IsTrue b ↔ Q → IsTrue b ↔ (P × Q)
first_holds a b P Q e p q = (λ t. (p.0 e, q.0 t), λ w. q.1 w.1)

-- where the first of two tests fails, its fact and another do not both hold
pub first_fails : (a : Bool) (P Q : Type 0) → a ≡ false → IsTrue a ↔ P → IsTrue false ↔ (P × Q)
first_fails a P Q e p = (λ t. absurd (cc), λ w. absurd (let n = p.1 w.0 in cc))

-- a test whether two options have one number tells whether P and Q hold of one number, where they say what each option has
pub shared : (a b : Option ℕ) (P Q : ℕ → Type 0) (t : Bool) → ((x : ℕ) → P x ↔ (a ≡ Some x)) → ((x : ℕ) → Q x ↔ (b ≡ Some x))
    → IsTrue t ↔ ((x : ℕ) × (a ≡ Some x) × (b ≡ Some x)) → IsTrue t ↔ ((x : ℕ) × P x × Q x)
shared a b P Q t p q test = (
  λ is. let w = test.0 is
      in (w.0, (p w.0).1 w.1, (q w.0).1 w.2),
  λ w. test.1 (w.0, (p w.0).0 w.1, (q w.0).0 w.2),
)

-- the five cases
Cases : Stamp → Stamp → Type 0
Cases e f =
    (((((o : ℕ) × (released e.event ≡ Some (monitor o)) × (acquired f.event ≡ Some (monitor o))) ⊎
    ((x : ℕ) × (released e.event ≡ Some (volatile x)) × (acquired f.event ≡ Some (volatile x)))) ⊎
    (((h : ℕ) × (e.event ≡ Does (Fork f.thread h))) × ((h : ℕ) × (f.event ≡ Does (Begin h))))) ⊎
    ((e.event ≡ Does End) × (f.event ≡ Does (Join e.thread)))) ⊎
    ((x : ℕ) × (xs : List ℕ) × (ys : List ℕ) × (e.event ≡ Commit xs) × (f.event ≡ Commit ys) × Contains xs x × Contains ys x)

-- in each of the five cases the first event synchronizes with the second
from_case : (e f : Stamp) → Cases e f → SynchronizesWith e f
unfolding Cases
from_case e f (inl (inl (inl (inl (o, u, l))))) = release_acquire (monitor o) u l
from_case e f (inl (inl (inl (inr (x, w, r))))) = release_acquire (volatile x) w r
from_case e f (inl (inl (inr ((g, forked), (k, begun))))) = fork_begin g k forked begun
from_case e f (inl (inr (ended, joined))) = end_join ended joined
from_case e f (inr (x, xs, ys, first, second, one, other)) = commits x xs ys first second one other

-- where an event synchronizes with another, it is by one of the five cases
to_case : (e f : Stamp) → SynchronizesWith e f → Cases e f
unfolding Cases
to_case e f (release_acquire (monitor o) u l) = inl (inl (inl (inl (o, u, l))))
to_case e f (release_acquire (volatile x) w r) = inl (inl (inl (inr (x, w, r))))
to_case e f (fork_begin g k forked begun) = inl (inl (inr ((g, forked), (k, begun))))
to_case e f (end_join ended joined) = inl (inr (ended, joined))
to_case e f (commits x xs ys first second one other) = inr (x, xs, ys, first, second, one, other)

-- tests of the parts of the five cases tell together whether e synchronizes with f
pub synchronizes_by :
    (e f : Stamp) (m v k g n j c : Bool) →
    IsTrue m ↔ ((o : ℕ) × (released e.event ≡ Some (monitor o)) × (acquired f.event ≡ Some (monitor o))) →
    IsTrue v ↔ ((x : ℕ) × (released e.event ≡ Some (volatile x)) × (acquired f.event ≡ Some (volatile x))) →
    IsTrue k ↔ ((h : ℕ) × (e.event ≡ Does (Fork f.thread h))) → IsTrue g ↔ ((h : ℕ) × (f.event ≡ Does (Begin h))) →
    IsTrue n ↔ (e.event ≡ Does End) → IsTrue j ↔ (f.event ≡ Does (Join e.thread)) →
    IsTrue c ↔ ((x : ℕ) × (xs : List ℕ) × (ys : List ℕ) × (e.event ≡ Commit xs) × (f.event ≡ Commit ys) × Contains xs x × Contains ys x) →
    IsTrue ((((m || v) || (k && g)) || (n && j)) || c) ↔ SynchronizesWith e f
unfolding Cases
synchronizes_by e f m v k g n j c pm pv pk pg pn pj pc =
    let all : IsTrue ((((m || v) || (k && g)) || (n && j)) || c) ↔ Cases e f =
    either (((m || v) || (k && g)) || (n && j)) c _ _
    (either ((m || v) || (k && g)) (n && j) _ _ (either (m || v) (k && g) _ _ (either m v _ _ pm pv) (both k g _ _ pk pg))
    (both n j _ _ pn pj)) pc in
    (λ t. from_case e f (all.0 t), λ w. all.1 (to_case e f w))
