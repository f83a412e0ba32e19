-- The five words of an event, one after another.
use Rattle.std.proofs.Common.{◌≡◌, ℕ, zero, suc, List, [], ◌∷◌, ◌++◌, length, refl, ◌∙◌, arith}
use Rattle.std.specs.Prelude.{Contains, slice_index}
use Rattle.gl_model.specs.declared.event.Stamp.{Stamp}
use Rattle.gl_rule.specs.Cells.{packed}
use Rattle.gl_rule.specs.View.{CellWord, saw_cell}
use Rattle.gl_rule.proofs.Publishing.{packed_long}
use Rattle.gl_table.specs.PassView.{PassView, view_of}
use Rattle.gl_table.specs.Walking.{word_at, four_words}

-- the word that is put last is in the list
in_last : (xs : List CellWord) (x : CellWord) → Contains (xs ++ x ∷ []) x
in_last [] x = (0, omega arith, refl)
in_last (y ∷ xs) x = let r = in_last xs x in let near = r.1 in (suc r.0, omega arith, r.2)

-- what is in a list is in it with one word more after it
in_front : (xs : List CellWord) (y x : CellWord) → Contains xs x → Contains (xs ++ y ∷ []) x
in_front [] y x c = absurd (let near = c.1 in omega arith)
in_front (z ∷ xs) y x (zero, near, is) = (zero, omega arith, is)
in_front (z ∷ xs) y x (suc k, near, is) = let r = in_front xs y x (k, omega arith, is) in let far = r.1 in (suc r.0, omega arith, r.2)

-- the five words of a list of five, put together, are the list
five_of : (l : List ℕ) → length l ≡ 5 → slice_index l 0 ∷ slice_index l 1 ∷ slice_index l 2 ∷ slice_index l 3 ∷ slice_index l 4 ∷ [] ≡ l
five_of [] n = absurd (omega arith)
five_of (a ∷ []) n = absurd (omega arith)
five_of (a ∷ (b ∷ [])) n = absurd (omega arith)
five_of (a ∷ (b ∷ (c ∷ []))) n = absurd (omega arith)
five_of (a ∷ (b ∷ (c ∷ (d ∷ [])))) n = absurd (omega arith)
five_of (a ∷ (b ∷ (c ∷ (d ∷ (e ∷ []))))) n = refl
five_of (a ∷ (b ∷ (c ∷ (d ∷ (e ∷ (f ∷ l)))))) n = absurd (omega arith)

-- the words that were loaded are those of the event
pub five_stand : (q : PassView) (p a b c d e : ℕ) (x : Stamp)
    → ((r : CellWord) → Contains (saw_cell (view_of (four_words q p a b c d)) (word_at p 4 e)).loaded r → r.position ≡ p → r.word
    ≡ slice_index (packed x) r.index) → a ∷ b ∷ c ∷ d ∷ e ∷ [] ≡ packed x
five_stand q p a b c d e x words =
    let l0 = q.loaded in
    let l1 = l0 ++ word_at p 0 a ∷ [] in
    let l2 = l1 ++ word_at p 1 b ∷ [] in
    let l3 = l2 ++ word_at p 2 c ∷ [] in
    let l4 = l3 ++ word_at p 3 d ∷ [] in
    let w0 : a ≡ slice_index (packed x) 0 = words (word_at p 0 a)
    (in_front l4 (word_at p 4 e) (word_at p 0 a)
    (in_front l3 (word_at p 3 d) (word_at p 0 a)
    (in_front l2 (word_at p 2 c) (word_at p 0 a) (in_front l1 (word_at p 1 b) (word_at p 0 a) (in_last l0 (word_at p 0 a)))))) refl in
    let w1 : b ≡ slice_index (packed x) 1 = words (word_at p 1 b)
    (in_front l4 (word_at p 4 e) (word_at p 1 b)
    (in_front l3 (word_at p 3 d) (word_at p 1 b) (in_front l2 (word_at p 2 c) (word_at p 1 b) (in_last l1 (word_at p 1 b))))) refl in
    let w2 : c ≡ slice_index (packed x) 2 = words (word_at p 2 c)
    (in_front l4 (word_at p 4 e) (word_at p 2 c) (in_front l3 (word_at p 3 d) (word_at p 2 c) (in_last l2 (word_at p 2 c)))) refl in
    let w3 : d ≡ slice_index (packed x) 3 = words (word_at p 3 d)
    (in_front l4 (word_at p 4 e) (word_at p 3 d) (in_last l3 (word_at p 3 d))) refl in
    let w4 : e ≡ slice_index (packed x) 4 = words (word_at p 4 e) (in_last l4 (word_at p 4 e)) refl in
    let same : a ∷ b ∷ c ∷ d ∷ e ∷ [] ≡ slice_index (packed x) 0 ∷ slice_index (packed x) 1 ∷ slice_index (packed x) 2
    ∷ slice_index (packed x) 3 ∷ slice_index (packed x) 4 ∷ [] = (λ i. w0 i ∷ w1 i ∷ w2 i ∷ w3 i ∷ w4 i ∷ []) in
    same ∙ five_of (packed x) (packed_long x)
