-- The rule when an event that is no commit is published.
use Rattle.std.proofs.Common.{◌≡◌, ℕ, ◌+◌, ◌^◌, ◌%◌, List, [], ◌∷◌, ◌++◌, length, refl, subst, arith, inl, inr}
use Rattle.std.specs.Prelude.{ℤ}
use Rattle.atomic_table.specs.Table as table
use Rattle.gl_model.specs.declared.event.Act.{Act}
use Rattle.gl_model.specs.declared.event.Event.TheVariants.{Act as Does}
use Rattle.gl_model.specs.declared.event.Stamp.{Stamp}
use Rattle.gl_model.specs.Entries.{Entry, Sync}
use Rattle.gl_draws.specs.Draws.{Draw}
use Rattle.gl_draws.specs.Ties.{Drawn}
use Rattle.gl_draws.proofs.DrawCounts.{counted_more}
use Rattle.gl_draws.proofs.DrawTies.{drawn_push}
use Rattle.gl_draws.proofs.RowGrowth.{row_grows}
use Rattle.gl_draws.proofs.VerdictGrowth.{draws_grow}
use Rattle.gl_rule.specs.declared.slot.Slot.{Slot}
use Rattle.gl_rule.specs.declared.slot.Slot.TheVariants as slot
use Rattle.gl_state.specs.ListView.{ListView}
use Rattle.gl_rule.specs.Objects.{Key}
use Rattle.gl_rule.specs.View.{View, Held, Shelf, shelf}
use Rattle.gl_rule.specs.Numbers.{ShelfDraws}
use Rattle.gl_rule.specs.Fitting.{MayPublish}
use Rattle.gl_rule.specs.Rule.{Rule}
use Rattle.gl_rule.specs.Told.{Published}
use Rattle.gl_rule.proofs.HeldLists.{only_shelf}
use Rattle.gl_draws.proofs.Refusing.{refusals_grow}
use Rattle.gl_rule.proofs.Publishing.{publishes}

-- the numbers of a list with an entry more that draws none, where none waits
pub numbers_push : (draws : ℕ → List Draw) (drawn : List Drawn) (s : Shelf) (e : Entry) → drawn ≡ []
    → ((x k : ℕ) → Rattle.gl_model.specs.Form.Draws e x k → ⊥) → ShelfDraws draws drawn s
    → ShelfDraws draws [] (shelf s.thread (s.marked ++ e ∷ []))
numbers_push draws drawn s e none no_draw k =
    let k' : ShelfDraws draws [] s = subst (λ d. ShelfDraws draws d s) none k in record {
      numbers = drawn_push draws s.thread s.marked [] e no_draw k'.numbers;
      few = λ x. let a = k'.few x in let b = counted_more s.marked e in omega arith;
      two = λ x. omega arith;
      above = λ x n m i f o a d has. absurd (let l = has.1 in omega arith);
      runs = λ o has. absurd (let l = has.1 in omega arith);
    }

-- publishing an act keeps the rule
pub publishes_act : (key : Key) (slots id : ℕ) (v : View) (c : List (ℕ × Slot)) (s : Shelf) (h : Held) (l l' : ListView) (act : Act)
    (value : ℤ) → v.shelves ≡ s ∷ [] → v.drawn ≡ []
    → MayPublish key s v h l l' (λ n. Sync n act value) (record { thread = s.thread; event = Does act }) value
    → table.Allows (Rule key) slots id (v, c) 0 (λ n. (n + 1) % 2 ^ 64)
    (Published s (λ n. Sync n act value) (record { thread = s.thread; event = Does act }) (slot.List l') (λ n g. g.drew) v c)
publishes_act key slots id v c s h l l' act value one none may =
    let x : Stamp = record { thread = s.thread; event = Does act } in
    publishes key slots id v c s h l l' (λ n. Sync n act value) x value (λ n g. g.drew) one may (λ w st new H here exact step. record {
      draws = w.draws;
      change = record {
        numbers = H.whole.numbers;
        verdicts = λ y. draws_grow w.log (x ∷ []) y (w.draws y) (H.whole.verdicts y);
        refused = λ y. refusals_grow w.log (x ∷ []) (w.until y) y (w.draws y) (H.whole.refused y);
        behind = λ g y ds has is e. e;
        repeats = λ y k d at own. inl at;
        calm = λ shelves y o other. refl;
        calmly = λ shelves y o other calm. calm;
        foreign = λ u y k d ne own at. at;
        elsewhere = λ y. inl refl;
        others = λ r drawn other d. d;
        own = numbers_push w.draws v.drawn s (Sync (length w.log) act value) none (λ y k d. no_draw act value (length w.log) y k d)
            (only_shelf (ShelfDraws w.draws v.drawn) v s one (H.views.at id v here).numbers.shelves);
        held = λ g y row has is r. record {
          before = r.before;
          draws_are = r.draws_are;
          stands = row_grows key.setting w.log (x ∷ []) y r.before row r.stands;
        };
      };
    })
  where
    no_draw : (act : Act) (value : ℤ) (n y k : ℕ) → Rattle.gl_model.specs.Form.Draws (Sync n act value) y k → ⊥
    no_draw act value n y k (inl d) = d
    no_draw act value n y k (inr d) = d
