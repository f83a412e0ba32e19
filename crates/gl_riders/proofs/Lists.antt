-- What a list says grows entry by entry.
use Rattle.std.proofs.Common.{◌≡◌, ℕ, suc, List, [], ◌∷◌, ◌++◌, length, refl, ◌∙◌, ap, Bool, Option, None, inl, inr}
use Rattle.std.specs.Prelude.{◌⊎◌}
use Rattle.gl_model.specs.Entries.{Entry, Sync, Commit, Plain, Abort, Trim, Over}
use Rattle.gl_bytecode.specs.Runs.{without_trims}
use Rattle.gl_draws.specs.Ties.{counted}
use Rattle.gl_rule.specs.Lives.{Life, Unbegun, Running, Ended, Closed, life_after, life_from, life_of}
use Rattle.gl_table.specs.RightOf.{right_after, right_from, right_of}
use Rattle.gl_rule.specs.Levels.{levels_entry, levels_from, levels_of}
use Rattle.gl_riders.specs.Sweeping.{AreTrims}

-- the life after two lists is the life after the second, from that after the first
life_from-append : (life : Life) (xs ys : List Entry) → life_from life (xs ++ ys) ≡ life_from (life_from life xs) ys
life_from-append life [] ys = refl
life_from-append life (x ∷ xs) ys = life_from-append (life_after life x) xs ys

-- the life after one entry more is what the entry makes of the life before
pub life_push : (es : List Entry) (e : Entry) → life_of (es ++ e ∷ []) ≡ life_after (life_of es) e
life_push es e = life_from-append Unbegun es (e ∷ [])

-- the levels after two lists are those after the second, from those after the first
levels_from-append : (levels : List ℕ) (xs ys : List Entry) → levels_from levels (xs ++ ys) ≡ levels_from (levels_from levels xs) ys
levels_from-append levels [] ys = refl
levels_from-append levels (x ∷ xs) ys = levels_from-append (levels_entry levels x) xs ys

-- the levels of a list with one entry more are those of the list after that entry
pub levels_push : (es : List Entry) (e : Entry) → levels_of (es ++ e ∷ []) ≡ levels_entry (levels_of es) e
unfolding levels_of
levels_push es e = levels_from-append _ es (e ∷ [])

-- the right after two lists is that after the second, from that after the first
right_from-append : (x : ℕ) (r : Option (ℕ × Bool)) (xs ys : List Entry) → right_from x r (xs ++ ys) ≡ right_from x (right_from x r xs) ys
right_from-append x r [] ys = refl
right_from-append x r (e ∷ xs) ys = right_from-append x (right_after x r e) xs ys

-- the right on a variable after one entry more is what the entry makes of the right before
pub right_push : (es : List Entry) (e : Entry) (x : ℕ) → right_of (es ++ e ∷ []) x ≡ right_after x (right_of es x) e
right_push es e x = right_from-append x None es (e ∷ [])

-- ## Trims change nothing

-- the thread has not ended
abbrev pub IsOpen : Life → Type 0
IsOpen life = (life ≡ Unbegun) ⊎ (life ≡ Running)

-- trims leave an open life
life_trims : (life : Life) (ts : List Entry) → IsOpen life → AreTrims ts → life_from life ts ≡ life
life_trims life [] goes trims = refl
life_trims Unbegun (Trim low ∷ ts) goes trims = life_trims Unbegun ts goes trims
life_trims Running (Trim low ∷ ts) goes trims = life_trims Running ts goes trims
life_trims Ended (Trim low ∷ ts) goes trims = absurd (elim goes [ inl e ↦ (cc) | inr e ↦ (cc) ])
life_trims Closed (Trim low ∷ ts) goes trims = absurd (elim goes [ inl e ↦ (cc) | inr e ↦ (cc) ])
life_trims life (Sync at act value ∷ ts) goes trims = absurd trims
life_trims life (Commit at tx ∷ ts) goes trims = absurd trims
life_trims life (Plain x n k w v r ∷ ts) goes trims = absurd trims
life_trims life (Abort tx why ∷ ts) goes trims = absurd trims
life_trims life (Over e ∷ ts) goes trims = absurd trims

-- sweeping leaves the life of a list, if it is open
pub life_swept : (es ts : List Entry) → IsOpen (life_of es) → AreTrims ts → life_of (es ++ ts) ≡ life_of es
life_swept es ts goes trims = life_from-append Unbegun es ts ∙ life_trims (life_of es) ts goes trims

-- trims leave the levels
levels_trims : (levels : List ℕ) (ts : List Entry) → AreTrims ts → levels_from levels ts ≡ levels
levels_trims levels [] trims = refl
levels_trims levels (Trim low ∷ ts) trims = levels_trims levels ts trims
levels_trims levels (Sync at act value ∷ ts) trims = absurd trims
levels_trims levels (Commit at tx ∷ ts) trims = absurd trims
levels_trims levels (Plain x n k w v r ∷ ts) trims = absurd trims
levels_trims levels (Abort tx why ∷ ts) trims = absurd trims
levels_trims levels (Over e ∷ ts) trims = absurd trims

-- sweeping leaves the levels of a list
pub levels_swept : (es ts : List Entry) → AreTrims ts → levels_of (es ++ ts) ≡ levels_of es
unfolding levels_of
levels_swept es ts trims = levels_from-append _ es ts ∙ levels_trims _ ts trims

-- trims leave a right
right_trims : (x : ℕ) (r : Option (ℕ × Bool)) (ts : List Entry) → AreTrims ts → right_from x r ts ≡ r
right_trims x r [] trims = refl
right_trims x r (Trim low ∷ ts) trims = right_trims x r ts trims
right_trims x r (Sync at act value ∷ ts) trims = absurd trims
right_trims x r (Commit at tx ∷ ts) trims = absurd trims
right_trims x r (Plain y n k w v raised ∷ ts) trims = absurd trims
right_trims x r (Abort tx why ∷ ts) trims = absurd trims
right_trims x r (Over e ∷ ts) trims = absurd trims

-- sweeping leaves the right that a list gives
pub right_swept : (es ts : List Entry) (x : ℕ) → AreTrims ts → right_of (es ++ ts) x ≡ right_of es x
right_swept es ts x trims = right_from-append x None es ts ∙ right_trims x (right_of es x) ts trims

-- ## How many entries there are

-- a list counts as many entries as it has that are not trims
pub counted_same : (es : List Entry) → counted es ≡ length (without_trims es)
counted_same [] = refl
counted_same (Sync at act value ∷ es) = ap suc (counted_same es)
counted_same (Commit at tx ∷ es) = ap suc (counted_same es)
counted_same (Plain x n k w v r ∷ es) = ap suc (counted_same es)
counted_same (Abort tx why ∷ es) = ap suc (counted_same es)
counted_same (Trim low ∷ es) = counted_same es
counted_same (Over e ∷ es) = ap suc (counted_same es)
