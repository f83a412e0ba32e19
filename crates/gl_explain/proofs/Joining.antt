-- One text behind another.
use Rattle.std.proofs.Common.{◌≡◌, ◌∙◌, ℕ, List, ◌++◌, ap, append_assoc}
use Rattle.std.specs.Prelude.{Result, Ok, Err, OnOk}

-- what was added in two steps is one thing added after the other, where the second step ends well
pub joined : {T E : Type 0} (r : Result T E) (a b c x y z : List ℕ) → b ≡ a ++ x → OnOk r (c ≡ b ++ y) → x ++ y ≡ z → OnOk r (c ≡ a ++ z)
joined (Ok v) a b c x y z first second same = second ∙ ap (λ t. t ++ y) first ∙ append_assoc a x y ∙ ap (λ t. a ++ t) same
joined (Err e) a b c x y z first second same = tt
