-- One text behind another.
use Rattle.std.proofs.Common.{◌≡◌, ◌∙◌, ℕ, List, ◌++◌, ap, append_assoc}
use Rattle.std.specs.Prelude.{Result, Ok, Err, OnOk}

-- what was added in three steps
pub three : {T E : Type 0} (r : Result T E) (a b c d x y z : List ℕ) → b ≡ a ++ x → c ≡ b ++ y → OnOk r (d ≡ c ++ z)
    → OnOk r (d ≡ a ++ (x ++ (y ++ z)))
three (Ok v) a b c d x y z first second third =
    third ∙ ap (λ t. t ++ z) (second ∙ ap (λ t. t ++ y) first) ∙ append_assoc (a ++ x) y z ∙ append_assoc a x (y ++ z)
three (Err e) a b c d x y z first second third = tt

-- and in two
pub two : {T E : Type 0} (r : Result T E) (a b c x y : List ℕ) → b ≡ a ++ x → OnOk r (c ≡ b ++ y) → OnOk r (c ≡ a ++ (x ++ y))
two (Ok v) a b c x y first second = second ∙ ap (λ t. t ++ y) first ∙ append_assoc a x y
two (Err e) a b c x y first second = tt

-- what follows from a fact about a right result is true of it
pub on_ok : {T E : Type 0} (P Q : Type 0) (r : Result T E) → (P → Q) → OnOk r P → OnOk r Q
on_ok P Q (Ok x) g p = g p
on_ok P Q (Err e) g p = tt

-- and in five
pub five : {T E : Type 0} (r : Result T E) (a b c d e f v w x y z : List ℕ) → b ≡ a ++ v → c ≡ b ++ w → d ≡ c ++ x → e ≡ d ++ y
    → OnOk r (f ≡ e ++ z) → OnOk r (f ≡ a ++ (v ++ (w ++ (x ++ (y ++ z)))))
five r a b c d e f v w x y z first second third fourth fifth =
    two r a b f v (w ++ (x ++ (y ++ z))) first (two r b c f w (x ++ (y ++ z)) second (three r c d e f x y z third fourth fifth))
