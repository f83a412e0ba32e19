-- The lockset rules, as the code takes them one after another.
use Rattle.std.proofs.Common.{◌≡◌, ℕ, zero, suc, ◌/◌, ◌%◌, replicate, get_or, refl, inl, inr, arith}
use Rattle.std.specs.Prelude.{◌⊎◌, ◌↔◌, Bool, IsTrue}
use Rattle.std.specs.Int.{bit_at}
use Rattle.std.proofs.lemmas.Nat.Bits.{bit_at-zero}
use Rattle.gl_model.specs.declared.event.Event.{Event}
use Rattle.gl_model.specs.declared.event.Stamp.{Stamp}
use Rattle.gl_model.specs.declared.event.Element.{Element}
use Rattle.gl_model.specs.declared.event.Element.TheVariants.{Thread}
use Rattle.gl_model.specs.Elements.{HasBit}
use Rattle.gl_model.specs.Locksets.{Elements, Acquires, Releases, AfterAcquiring, After}

-- in a list of zeros, and beyond it, stands 0
zeros : (n k : ℕ) → ◌≡◌ {A = ℕ} (get_or (replicate n 0) k 0) 0
zeros zero k = refl
zeros (suc n) zero = refl
zeros (suc n) (suc k) = zeros n k

-- of words of zeros no bit is set
pub HasBit-zeros : (n k : ℕ) → HasBit (replicate n 0) k → ⊥
unfolding HasBit
HasBit-zeros n k h = let none : bit_at (get_or (replicate n 0) (k / 64) 0) (k % 64) ≡ 0 = rw zeros (bit_at-zero (k % 64)) in omega arith

-- an event that takes up one element
pub takes_one : (S : Elements) (e f : Event) (b : Bool) (y : Element) → e ≡ f → Acquires f y → ((z : Element) → Acquires f z → z ≡ y)
    → IsTrue b ↔ S y → IsTrue b ↔ ((x : Element) × Acquires e x × S x)
takes_one S e f b y same takes only test = (λ t. (y, rw same takes, test.0 t), λ w. test.1 (rw (only w.0 (rw same at w.1)) at w.2))

-- where the thread is in the set after the acquires, what is released is added: that is the set after the event
pub After-in : (S T U : Elements) (s : Stamp) → ((y : Element) → T y ↔ AfterAcquiring S s y) → T (Thread s.thread)
    → ((y : Element) → U y ↔ (Releases s.event y ⊎ T y)) → (y : Element) → U y ↔ After S s y
After-in S T U s taken has handed y = (
  λ u. elim ((handed y).0 u) [
    | inl h ↦ inr (h, (taken (Thread s.thread)).0 has)
    | inr t ↦ inl ((taken y).0 t)
  ],
  λ w. elim w [ inl t ↦ (handed y).1 (inr ((taken y).1 t)) | inr h ↦ (handed y).1 (inl h.0) ],
)

-- where the thread is not in the set after the acquires, that is the set after the event
pub After-out : (S T : Elements) (s : Stamp) → ((y : Element) → T y ↔ AfterAcquiring S s y) → (T (Thread s.thread) → ⊥) → (y : Element)
    → T y ↔ After S s y
After-out S T s taken out y = (
  λ t. inl ((taken y).0 t),
  λ w. elim w [
    | inl t ↦ (taken y).1 t
    | inr h ↦ absurd (out ((taken (Thread s.thread)).1 h.1))
  ],
)
