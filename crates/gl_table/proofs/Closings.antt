-- What the last load tells, and the first words of a table.
use Rattle.std.proofs.Common.{◌≡◌, ℕ, zero, suc, ◌+◌, ◌-◌, ◌<◌, List, [], ◌∷◌, ◌++◌, sym, ap, subst, arith, ◌∙◌, append_assoc}
use Rattle.std.specs.List.{All}
use Rattle.std.proofs.lemmas.List.Elements.{All-nil, All-cons}
use Rattle.atomic_table.specs.Table as table
use Rattle.atomic_table.specs.Seated.{TableId}
use Rattle.gl_rule.specs.declared.slot.Slot.{Slot}
use Rattle.gl_rule.specs.Objects.{Key}
use Rattle.gl_rule.specs.Opened.{shelves_from}
use Rattle.gl_rule.specs.Rule.{Rule}
use Rattle.gl_rule.specs.View.{View, Shelf, shelf, blank}
use Rattle.gl_rule.proofs.Bounding.{table_bounded}
use Rattle.gl_rule.proofs.Ending.{table_lawful}
use Rattle.gl_rule.proofs.Frames.{reviews, loads_word}
use Rattle.gl_rule.proofs.Seats.{splits}
use Rattle.gl_rule.proofs.Trimming.{trimmed}
use Rattle.gl_table.specs.Beginning.{first_of, rest_of, fresh, fresh_from}
use Rattle.gl_table.specs.Ending.{ClosedTold}
use Rattle.gl_table.specs.PassView.{PassView}

-- a load by any seat tells what the record is, should the seat have all lists
pub load_tells : (key : Key) (slots id : ℕ) (v : View) (c : List (ℕ × Slot))
    → table.Allows (Rule key) slots id (v, c) 0 (λ n. n) (λ n w. ClosedTold key v w)
load_tells key slots id v c s rule long here fits =
    let w = rule.0 in
    let H = rule.1 in (
      v,
      table.keeps,
      tt,
      loads_word key s id 0 v (w, reviews key w s id v v here (λ g o. o) H (H.views.at id v here)),
      record {
        lawful = λ h rising. table_lawful key w s id v H here h.held h.all h.done rising;
        trims = λ h. let t = trimmed key s id v rule here h in record { events = t.0; listed = t.1; trims = t.2 };
        bounded = λ cells h. table_bounded key s id v rule here h cells;
      },
    )

-- the first word may be loaded, and by it a pass has what a closed table tells
pub may_close : (key key' : Key) (slots id : ℕ) (me : table.Me Slot View) (u : View) → u ≡ me.0 → key' ≡ key
    → table.Allows (Rule key) slots id me 0 (λ n. n) (λ n w. ClosedTold key' u w)
may_close key key' slots id me u is same =
    subst (λ k. table.Allows (Rule key) slots id me 0 (λ n. n) (λ n w. ClosedTold k u w)) (sym same)
    (subst (λ z. table.Allows (Rule key) slots id me 0 (λ n. n) (λ n w. ClosedTold key z w)) (sym is) (load_tells key slots id me.0 me.1))

-- the lists after the first are of other threads
apart_from : (t u n : ℕ) → t < u → All (λ (r : Shelf). r.thread ≡ t → ⊥) (shelves_from u n)
apart_from t u zero h = All-nil (λ (r : Shelf). r.thread ≡ t → ⊥)
apart_from t u (suc n) h = All-cons (λ (r : Shelf). r.thread ≡ t → ⊥) (shelf u []) (shelves_from (suc u) n) (λ e. omega arith)
    (apart_from t (suc u) n (omega arith))

-- the lists from t on are t's empty list and those from t + 1 on
shelves_next : (t : ℕ) → t < 16 → shelves_from t (16 - t) ≡ shelf t [] ∷ shelves_from (suc t) (15 - t)
shelves_next t h = let e : 16 - t ≡ suc (15 - t) = omega arith in ap (shelves_from t) e

-- a pass of the lists from t on splits into that of t and that of the rest
pub cuts : (key : Key) (id t : ℕ) (v : View) → t < 16 → v ≡ blank (shelves_from t (16 - t))
    → table.Splits (Rule key) id v (rest_of v) (first_of v)
cuts key id t v h is =
    let e : v ≡ blank (shelf t [] ∷ shelves_from (suc t) (15 - t)) = is ∙ ap blank (shelves_next t h) in
    subst (λ (z : View). table.Splits (Rule key) id v (rest_of z) (first_of z)) (sym e)
    (splits key id t v (shelves_from (suc t) (15 - t)) e (apart_from t (suc t) (15 - t) (omega arith)))

-- the two parts that it splits into are those of t and of the rest from t + 1 on
pub cut_views : (t : ℕ) (v : View) → t < 16 → v ≡ blank (shelves_from t (16 - t)) → (rest_of v ≡ blank (shelves_from (t + 1) (15 - t)))
    × (first_of v ≡ blank (shelf t [] ∷ []))
cut_views t v h is =
    let e : v ≡ blank (shelf t [] ∷ shelves_from (suc t) (15 - t)) = is ∙ ap blank (shelves_next t h) in
    let n : suc t ≡ t + 1 = omega arith in
    (ap rest_of e ∙ ap (λ k. blank (shelves_from k (15 - t))) n, ap first_of e)

-- the fresh passes from t on are that of t and those from t + 1 on
pub fresh_next : (z : TableId) (t : ℕ) (ps : List PassView) → t < 16 → (ps ++ fresh z t ∷ []) ++ fresh_from z (t + 1) (16 - (t + 1)) ≡ ps
    ++ fresh_from z t (16 - t)
fresh_next z t ps h =
    let a : 16 - (t + 1) ≡ 15 - t = omega arith in
    let b : 16 - t ≡ suc (15 - t) = omega arith in
    let n : t + 1 ≡ suc t = omega arith in
    append_assoc ps (fresh z t ∷ []) (fresh_from z (t + 1) (16 - (t + 1))) ∙ ap (λ k. ps ++ fresh z t ∷ fresh_from z (t + 1) k) a
    ∙ ap (λ k. ps ++ fresh z t ∷ fresh_from z k (15 - t)) n ∙ sym (ap (λ k. ps ++ fresh_from z t k) b)
