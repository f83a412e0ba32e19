-- A record that keeps the lists that are not empty has the same lists.
use Rattle.std.proofs.Common.{◌≡◌, ℕ, ◌<◌, ◌==◌, List, [], ◌∷◌, map, refl, sym, ap, ◌∙◌, arith, true, false, Bool, ne_eqb}
use Rattle.std.specs.List.{AllByRecursion}
use Rattle.std.proofs.lemmas.Bool.{eqb-true}
use Rattle.gl_model.specs.Entries.{Entry}
use Rattle.gl_model.specs.Lists.{lists_of}
use Rattle.gl_model.specs.Rising.{Rises}
use Rattle.gl_rule.specs.Closed.{lists_in, with_list, kept_lists}
use Rattle.gl_rule.specs.View.{Shelf}

-- below all threads there is no list
none_below : (t n : ℕ) (ss : List Shelf) → n ≡ t → AllByRecursion (λ u. n < u) (map (λ (s : Shelf). s.thread) ss) → lists_in ss t ≡ []
none_below t n [] e all = refl
none_below t n (s ∷ ss) e all = let b : (s.thread == t) ≡ false = ne_eqb s.thread t (λ z. let l = all.0 in omega arith)
    in rw b (none_below t n ss e all.1)

-- the record of these lists has them, by thread
pub kept_are : (ss : List Shelf) (t : ℕ) → Rises (map (λ (s : Shelf). s.thread) ss) → lists_of (kept_lists ss) t ≡ lists_in ss t
kept_are [] t rises = refl
kept_are (s ∷ ss) t rises = by (kept_are ss t rises.1) s.marked refl (s.thread == t) refl
  where
    by : lists_of (kept_lists ss) t ≡ lists_in ss t → (l : List Entry) → s.marked ≡ l → (b : Bool) → (s.thread == t) ≡ b
        → lists_of (with_list s.thread s.marked (kept_lists ss)) t ≡ lists_in (s ∷ ss) t
    by rec [] m true b = ap (λ l. lists_of (with_list s.thread l (kept_lists ss)) t) m ∙ rec
        ∙ none_below t s.thread ss (eqb-true s.thread t b) rises.0 ∙ sym (rw b m)
    by rec [] m false b = ap (λ l. lists_of (with_list s.thread l (kept_lists ss)) t) m ∙ rec ∙ rw b refl
    by rec (e ∷ es) m true b = ap (λ l. lists_of (with_list s.thread l (kept_lists ss)) t) m ∙ rw b (sym m)
    by rec (e ∷ es) m false b = ap (λ l. lists_of (with_list s.thread l (kept_lists ss)) t) m ∙ rw b rec
