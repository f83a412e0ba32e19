-- Turning a seat's slots.
use Rattle.std.proofs.Common.{◌≡◌, ℕ, ◌+◌, ◌<◌, List, [], ◌∷◌, ◌++◌, length, take, drop, get_or, sym, ap, ◌∙◌, add-one, drop-cons, append_assoc}
use Rattle.std.proofs.lemmas.List.{take_more, map-append, take-map, drop-map}
use Rattle.atomic_table.specs.Table.{turned}
use Rattle.gl_rule.specs.declared.slot.Slot.{Slot}
use Rattle.gl_rule.specs.declared.slot.Slot.TheVariants as slot
use Rattle.gl_table.specs.PassInside.{empties}

-- a list that is turned by one has its first element last
turned_cons : (x : ℕ × Slot) (l m : List (ℕ × Slot)) → l ≡ x ∷ m → turned l ≡ m ++ x ∷ []
turned_cons x l m e = ap turned e

-- a list that is turned by c and then once more is turned by c + 1
pub turned_step : (l : List (ℕ × Slot)) (c : ℕ) (d : ℕ × Slot) → c < length l → turned (drop c l ++ take c l) ≡ drop (c + 1) l
    ++ take (c + 1) l
turned_step l c d h =
    let y = get_or l c d in
    let a : drop c l ≡ y ∷ drop (c + 1) l = rw add-one (drop-cons l c d h) in
    turned_cons y (drop c l ++ take c l) (drop (c + 1) l ++ take c l) (ap (λ k. k ++ take c l) a)
    ∙ append_assoc (drop (c + 1) l) (take c l) (y ∷ []) ∙ ap (λ k. drop (c + 1) l ++ k) (sym (take_more l c d h))

-- empty slots that are turned are those of the turned list
pub rotated_empties : (i : ℕ) (l : List ℕ) → drop i (empties l) ++ take i (empties l) ≡ empties (drop i l ++ take i l)
rotated_empties i l =
    let f : ℕ → ℕ × Slot = λ k. (k, slot.Empty) in
    ap (λ k. k ++ take i (empties l)) (drop-map f i l) ∙ ap (λ k. empties (drop i l) ++ k) (take-map f i l)
    ∙ sym (map-append f (drop i l) (take i l))
