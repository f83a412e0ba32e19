-- What the parts of an attempt's end cost, one after another.
use Rattle.std.proofs.Common.{◌≡◌, ℕ, suc, ◌+◌, ◌≤◌, List, [], ◌∷◌, length, refl, ap, arith}
use Rattle.gl_rule.specs.View.{Moves, moved}
use Rattle.gl_table.specs.PassView.{PassView}
use Rattle.gl_txn.specs.Costs.{EndCosts}
use Rattle.gl_txn.specs.Holding.{vars_of}
use Rattle.gl_txn.specs.declared.taken.TakenRow.{TakenRow}

-- steps that tell no event and touch no cell cost just as many steps
pub costs_steps : (steps : ℕ) (p q : PassView) → q.known ≡ p.known → q.moves ≡ moved steps p.moves → EndCosts 0 steps p q
costs_steps steps p q known is =
    let k = ap length known in
    let l = ap (λ (m : Moves). m.loads) is in
    let s = ap (λ (m : Moves). m.stores) is in
    let o = ap (λ (m : Moves). m.others) is in
    record { words = omega arith; stores = omega arith; others = omega arith }

-- two parts of an end, one after the other, cost together what each of them costs
pub costs_both : (a b c s t u : ℕ) (p q r : PassView) → EndCosts s a p q → EndCosts t b q r → s + t ≡ u → a + b ≤ c → EndCosts u c p r
costs_both a b c s t u p q r x y e le =
    let l = x.words in
    let m = y.words in
    let i = x.stores in
    let j = y.stores in
    let o = x.others in
    let n = y.others in
    record { words = omega arith; stores = omega arith; others = omega arith }

-- there are as many variables as rows
pub rows_long : (rows : List TakenRow) → length (vars_of rows) ≡ length rows
rows_long [] = refl
rows_long (r ∷ rs) = ap suc (rows_long rs)
